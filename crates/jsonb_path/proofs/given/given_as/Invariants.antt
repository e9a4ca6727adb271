-- What is left decides.
use Rattle.std.proofs.Common.{◌≡◌, length, map}
use Rattle.jsonb.specs.Node.{member_tree}
use Rattle.jsonb_path.specs.Meaning.{given_as}
use Rattle.jsonb_path.proofs.given.given_as.Given as goal

abbrev pub invariant-loop-left : goal.invariant-loop-left
invariant-loop-left l =
    given_as l.fn.name (map member_tree l.fn.variables)
    ≡ given_as l.fn.name (map member_tree l.left)

abbrev pub decreases-loop-left : goal.decreases-loop-left
decreases-loop-left l = length l.left
