use Rattle.std.proofs.Common.{◌≡◌, length}
use Rattle.jsonb_value.specs.Tree.{text}
use Rattle.jsonb_value.specs.Value.{trees_of}
use Rattle.jsonb.specs.EntryTrees.{rest_trees}
use Rattle.jsonb_functions.specs.Contains.{contained, some_tree}
use Rattle.jsonb_functions.proofs.containment.has_text.Given as goal

abbrev pub invariant-loop-item : goal.invariant-loop-item
invariant-loop-item l =
    some_tree (λ t. contained (text l.fn.wanted) t) (trees_of (rest_trees l.fn.items))
    ≡ some_tree (λ t. contained (text l.fn.wanted) t) (trees_of (rest_trees l.items))

abbrev pub decreases-loop-item : goal.decreases-loop-item
decreases-loop-item l = length (rest_trees l.items)
