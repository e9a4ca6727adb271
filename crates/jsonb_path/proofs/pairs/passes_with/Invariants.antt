-- The truth so far, and after it that of what is left, is the whole.
use Rattle.std.proofs.Common.{◌≡◌, length}
use Rattle.std.specs.Prelude.{map}
use Rattle.jsonb.specs.Node.{node_tree}
use Rattle.jsonb_path.specs.Found.{checked, either_in}
use Rattle.jsonb_path.specs.Meaning.{row, some_passes}
use Rattle.jsonb_path.proofs.pairs.passes_with.Given as goal

abbrev pub invariant-loop-left : goal.invariant-loop-left
invariant-loop-left l =
    let test = checked l.fn.check (node_tree l.fn.value) in
    either_in l.fn.mode l.truth (some_passes l.fn.mode (row test (map node_tree l.left)))
    ≡ some_passes l.fn.mode (row test (map node_tree l.fn.right))

abbrev pub decreases-loop-left : goal.decreases-loop-left
decreases-loop-left l = length l.left
