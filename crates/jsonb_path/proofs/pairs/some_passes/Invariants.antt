-- The truth so far, and after it that of what is left, is the whole.
use Rattle.std.proofs.Common.{◌≡◌, length}
use Rattle.std.specs.Prelude.{map}
use Rattle.jsonb.specs.Node.{node_tree}
use Rattle.jsonb_path.specs.Found.{checked, either_in}
use Rattle.jsonb_path.specs.Meaning.{some_passes, table}
use Rattle.jsonb_path.proofs.pairs.some_passes.Given as goal

abbrev pub invariant-loop-rows : goal.invariant-loop-rows
invariant-loop-rows l =
    let test = checked l.fn.check in
    let others = map node_tree l.fn.right in
    either_in l.fn.mode l.truth (some_passes l.fn.mode (table test (map node_tree l.rows) others))
    ≡ some_passes l.fn.mode (table test (map node_tree l.fn.left) others)

abbrev pub decreases-loop-rows : goal.decreases-loop-rows
decreases-loop-rows l = length l.rows
