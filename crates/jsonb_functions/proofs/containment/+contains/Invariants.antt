-- Each call goes to smaller values, and what is left of a walk decides as the whole does.
use Rattle.std.proofs.Common.{◌≡◌, ◌+◌, ◌*◌, ◌≤◌, length}
use Rattle.std.specs.Prelude.{IfSome, is_some}
use Rattle.jsonb_value.specs.Tree.{count}
use Rattle.jsonb_value.specs.Value.{trees_of}
use Rattle.jsonb.specs.Document.{document_tree}
use Rattle.jsonb.specs.EntryTrees.{rest_trees, rest_pairs}
use Rattle.jsonb_value.specs.Tree.{Ascend}
use Rattle.jsonb.specs.Node.{node_tree, pairs_of, object_of}
use Rattle.jsonb_functions.specs.Contains.{contained, items_contained, some_tree, members_contained}
use Rattle.jsonb_functions.specs.Contains.{items_or_none}
use Rattle.jsonb_functions.specs.ContainSteps.{are_many, contained_work, items_work, members_work}
use Rattle.jsonb_functions.specs.ContainSteps.{work_until}
use Rattle.jsonb_functions.specs.ContainWalks.{array_work}
use Rattle.jsonb_functions.specs.Scalars.{AreScalarsOf}
use Rattle.jsonb_functions.specs.Weight.{weight, weights, pair_weights}
use Rattle.jsonb_functions.proofs.ContainLaws.{Remains}
use Rattle.jsonb_functions.proofs.containment.+contains.Given as goal

abbrev pub decreases-contains_node : goal.decreases-contains_node
decreases-contains_node l = 4 * (weight (node_tree l.left) + weight (node_tree l.right)) + 2

abbrev pub decreases-contains_documents : goal.decreases-contains_documents
decreases-contains_documents l =
    4 * (weight (document_tree l.left) + weight (document_tree l.right)) + 1

abbrev pub decreases-contains_items : goal.decreases-contains_items
decreases-contains_items l =
    4 * (weight (document_tree l.array) + weights (trees_of (rest_trees l.wanted))) + 3

abbrev pub decreases-has_value : goal.decreases-has_value
decreases-has_value l =
    4 * (weights (trees_of (rest_trees l.items)) + weight (node_tree l.wanted)) + 4

abbrev pub decreases-has_item : goal.decreases-has_item
decreases-has_item l =
    4 * (weights (trees_of (rest_trees l.items)) + weight (node_tree l.wanted)) + 3

abbrev pub decreases-contains_members : goal.decreases-contains_members
decreases-contains_members l =
    4 * (pair_weights (pairs_of (rest_pairs l.members))
    + pair_weights (pairs_of (rest_pairs l.wanted))) + 3

abbrev pub invariant-contains_items-loop-item : goal.invariant-contains_items-loop-item
invariant-contains_items-loop-item l = record {
  decides : items_contained (trees_of (rest_trees l.fn.wanted))
      (items_or_none (document_tree l.fn.array))
      ≡ items_contained (trees_of (rest_trees l.wanted)) (items_or_none (document_tree l.fn.array));
  work : Remains (array_work (trees_of (rest_trees l.fn.wanted))
      (items_or_none (document_tree l.fn.array)))
      (items_work (is_some l.scalars) (trees_of (rest_trees l.wanted))
      (items_or_none (document_tree l.fn.array))) l.fn.steps l.steps;
  less : weights (trees_of (rest_trees l.wanted)) ≤ weights (trees_of (rest_trees l.fn.wanted));
  scalars : IfSome l.scalars (AreScalarsOf (items_or_none (document_tree l.fn.array)));
  many : is_some l.scalars
      ≡ are_many (length (rest_trees l.fn.wanted))
      (count (items_or_none (document_tree l.fn.array)));
}

abbrev pub decreases-contains_items-loop-item : goal.decreases-contains_items-loop-item
decreases-contains_items-loop-item l = length (rest_trees l.wanted)

abbrev pub invariant-has_item-loop-item : goal.invariant-has_item-loop-item
invariant-has_item-loop-item l = record {
  decides : some_tree (λ t. contained (node_tree l.fn.wanted) t) (trees_of (rest_trees l.fn.items))
      ≡ some_tree (λ t. contained (node_tree l.fn.wanted) t) (trees_of (rest_trees l.items));
  work : Remains (work_until (λ t. contained (node_tree l.fn.wanted) t)
      (λ t. contained_work (node_tree l.fn.wanted) t) (trees_of (rest_trees l.fn.items)))
      (work_until (λ t. contained (node_tree l.fn.wanted) t)
      (λ t. contained_work (node_tree l.fn.wanted) t) (trees_of (rest_trees l.items)))
      l.fn.steps l.steps;
  less : weights (trees_of (rest_trees l.items)) ≤ weights (trees_of (rest_trees l.fn.items));
}

abbrev pub decreases-has_item-loop-item : goal.decreases-has_item-loop-item
decreases-has_item-loop-item l = length (rest_trees l.items)

abbrev pub invariant-contains_members-loop-name : goal.invariant-contains_members-loop-name
invariant-contains_members-loop-name l = record {
  decides : members_contained (pairs_of (rest_pairs l.fn.wanted))
      (object_of (rest_pairs l.fn.members))
      ≡ members_contained (pairs_of (rest_pairs l.wanted)) (object_of (rest_pairs l.members));
  work : Remains (members_work (pairs_of (rest_pairs l.fn.wanted))
      (pairs_of (rest_pairs l.fn.members)))
      (members_work (pairs_of (rest_pairs l.wanted)) (pairs_of (rest_pairs l.members)))
      l.fn.steps l.steps;
  members : Ascend (pairs_of (rest_pairs l.members));
  wanted : Ascend (pairs_of (rest_pairs l.wanted));
  less : pair_weights (pairs_of (rest_pairs l.wanted))
      ≤ pair_weights (pairs_of (rest_pairs l.fn.wanted));
  fewer : pair_weights (pairs_of (rest_pairs l.members))
      ≤ pair_weights (pairs_of (rest_pairs l.fn.members));
}

abbrev pub decreases-contains_members-loop-name : goal.decreases-contains_members-loop-name
decreases-contains_members-loop-name l = length (rest_pairs l.wanted)
