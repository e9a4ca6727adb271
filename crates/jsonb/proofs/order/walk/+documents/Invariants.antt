-- Each call receives smaller values, and the remaining parts of two walks compare as the wholes do.
use Rattle.std.proofs.Common.{◌≡◌, ◌+◌, ◌*◌, ◌≤◌, length}
use Rattle.jsonb_value.specs.Value.{trees_of}
use Rattle.jsonb_value.specs.TreeOrder.{trees_cmp, pairs_cmp}
use Rattle.jsonb_codec.specs.Depth.{size, sizes, pair_sizes}
use Rattle.jsonb.specs.Document.{document_tree}
use Rattle.jsonb.specs.EntryTrees.{part_tree, rest_trees, rest_pairs}
use Rattle.jsonb.specs.Node.{node_tree, pairs_of}
use Rattle.jsonb.proofs.order.walk.+documents.Given as goal

abbrev pub decreases-cmp_nodes : goal.decreases-cmp_nodes
decreases-cmp_nodes l = 5 * size (node_tree l.left) + 1

abbrev pub decreases-cmp_parts : goal.decreases-cmp_parts
decreases-cmp_parts l = 5 * size (part_tree l.left) + 3

abbrev pub decreases-cmp_read_parts : goal.decreases-cmp_read_parts
decreases-cmp_read_parts l = 5 * size (part_tree l.left) + 2

abbrev pub decreases-cmp_containers : goal.decreases-cmp_containers
decreases-cmp_containers l = 5 * size (document_tree l.left)

abbrev pub decreases-cmp_items : goal.decreases-cmp_items
decreases-cmp_items l = 5 * sizes (trees_of (rest_trees l.left)) + 4

abbrev pub decreases-cmp_members : goal.decreases-cmp_members
decreases-cmp_members l = 5 * pair_sizes (pairs_of (rest_pairs l.left)) + 4

abbrev pub invariant-cmp_items-loop-left_item : goal.invariant-cmp_items-loop-left_item
invariant-cmp_items-loop-left_item l = record {
  decides : trees_cmp (trees_of (rest_trees l.fn.left)) (trees_of (rest_trees l.fn.right))
      ≡ trees_cmp (trees_of (rest_trees l.left)) (trees_of (rest_trees l.right));
  less : sizes (trees_of (rest_trees l.left)) ≤ sizes (trees_of (rest_trees l.fn.left));
}

abbrev pub decreases-cmp_items-loop-left_item : goal.decreases-cmp_items-loop-left_item
decreases-cmp_items-loop-left_item l = length (rest_trees l.left)

abbrev pub invariant-cmp_members-loop-left_key : goal.invariant-cmp_members-loop-left_key
invariant-cmp_members-loop-left_key l = record {
  decides : pairs_cmp (pairs_of (rest_pairs l.fn.left)) (pairs_of (rest_pairs l.fn.right))
      ≡ pairs_cmp (pairs_of (rest_pairs l.left)) (pairs_of (rest_pairs l.right));
  less : pair_sizes (pairs_of (rest_pairs l.left)) ≤ pair_sizes (pairs_of (rest_pairs l.fn.left));
}

abbrev pub decreases-cmp_members-loop-left_key : goal.decreases-cmp_members-loop-left_key
decreases-cmp_members-loop-left_key l = length (rest_pairs l.left)
