-- What was taken, and what the rest of the path takes from the node, is what the path takes.
use Rattle.std.proofs.Common.{◌≡◌, ◌+◌, length}
use Rattle.jsonb.specs.Node.{node_tree}
use Rattle.jsonb_functions.specs.SelectSteps.{extents}
use Rattle.jsonb_functions.proofs.selection.follow.Given as goal

abbrev pub invariant-loop-step : goal.invariant-loop-step
invariant-loop-step l =
    l.fn.steps + extents l.left (node_tree l.node)
    ≡ l.steps + extents l.fn.path (node_tree l.fn.start)

abbrev pub decreases-loop-step : goal.decreases-loop-step
decreases-loop-step l = length l.left
