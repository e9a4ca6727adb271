-- It is given if it is among those that are left.
use Rattle.std.proofs.Common.{◌≡◌, length, map}
use Rattle.jsonb.specs.Node.{member_tree}
use Rattle.jsonb_path.specs.Meaning.{is_given}
use Rattle.jsonb_path.proofs.given.is_given.Given as goal

abbrev pub invariant-loop-left : goal.invariant-loop-left
invariant-loop-left l =
    is_given (map member_tree l.fn.variables) l.fn.name
    ≡ is_given (map member_tree l.left) l.fn.name

abbrev pub decreases-loop-left : goal.decreases-loop-left
decreases-loop-left l = length l.left
