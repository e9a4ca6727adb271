-- What was taken, and what the indexes that are left take, is what all take.
use Rattle.std.proofs.Common.{◌≡◌, ◌+◌, suc, length}
use Rattle.std.specs.List.{sum_by}
use Rattle.jsonb.specs.Node.{node_tree}
use Rattle.jsonb_functions.specs.SelectSteps.{extent}
use Rattle.jsonb_functions.proofs.selection.ask_items.Given as goal

abbrev pub invariant-loop-left : goal.invariant-loop-left
invariant-loop-left l =
    l.fn.steps + sum_by (λ index. suc (extent (node_tree l.fn.node))) l.left
    ≡ l.steps + sum_by (λ index. suc (extent (node_tree l.fn.node))) l.fn.indexes

abbrev pub decreases-loop-left : goal.decreases-loop-left
decreases-loop-left l = length l.left
