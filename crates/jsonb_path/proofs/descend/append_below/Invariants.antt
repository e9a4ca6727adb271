-- What was found so far, and after it what the stack still gives, is the whole.
use Rattle.std.proofs.Common.{◌≡◌, map}
use Rattle.jsonb.specs.Node.{node_tree}
use Rattle.jsonb_path.specs.Found.{found_then}
use Rattle.jsonb_path.specs.Meaning.{below, gives}
use Rattle.jsonb_path.specs.Visits.{children_left, stack_below}
use Rattle.jsonb_path.proofs.VisitLaws.{stack_size}
use Rattle.jsonb_path.proofs.descend.append_below.Given as goal

abbrev pub invariant-loop-children : goal.invariant-loop-children
invariant-loop-children l =
    found_then l.found.items
    (gives (stack_below l.fn.first l.fn.last 0 (map children_left l.stack.items)))
    ≡ found_then l.fn.found.items (gives (below l.fn.first l.fn.last 0 (node_tree l.fn.node)))

abbrev pub decreases-loop-children : goal.decreases-loop-children
decreases-loop-children l = stack_size (map children_left l.stack.items)
