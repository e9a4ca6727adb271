-- Each call goes to values that hold less.
use Rattle.std.proofs.Common.{◌+◌, ◌*◌, ◌≤◌, length}
use Rattle.jsonb_value.specs.Value.{trees_of}
use Rattle.jsonb_codec.specs.Depth.{size, sizes, pair_sizes}
use Rattle.jsonb.specs.Document.{document_tree}
use Rattle.jsonb.specs.EntryTrees.{rest_trees, rest_pairs}
use Rattle.jsonb.specs.Node.{node_tree, pairs_of}
use Rattle.jsonb_comparable.specs.TreeKey.{trees_key, pairs_key}
use Rattle.jsonb_comparable.proofs.Sinks.{Going}
use Rattle.jsonb_comparable.proofs.walk.+keys.Given as goal

abbrev pub decreases-append_node : goal.decreases-append_node
decreases-append_node g l = 3 * size (node_tree l.node) + 1

abbrev pub decreases-append_container : goal.decreases-append_container
decreases-append_container g l = 3 * size (document_tree l.document)

abbrev pub decreases-append_items : goal.decreases-append_items
decreases-append_items g l = 3 * sizes (trees_of (rest_trees l.items)) + 2

abbrev pub decreases-append_members : goal.decreases-append_members
decreases-append_members g l = 3 * pair_sizes (pairs_of (rest_pairs l.members)) + 2

-- The keys of the items that are left, and the end byte, are left.
abbrev pub invariant-append_items-loop-item : goal.invariant-append_items-loop-item
invariant-append_items-loop-item g l = record {
  going : Going g.S.Sink.room g.S.Sink.appends l.fn.sink l.sink
      (trees_key (trees_of (rest_trees l.fn.items))) (trees_key (trees_of (rest_trees l.items)));
  less : sizes (trees_of (rest_trees l.items)) ≤ sizes (trees_of (rest_trees l.fn.items));
}

abbrev pub decreases-append_items-loop-item : goal.decreases-append_items-loop-item
decreases-append_items-loop-item g l = length (rest_trees l.items)

abbrev pub invariant-append_members-loop-key : goal.invariant-append_members-loop-key
invariant-append_members-loop-key g l = record {
  going : Going g.S.Sink.room g.S.Sink.appends l.fn.sink l.sink
      (pairs_key (pairs_of (rest_pairs l.fn.members)))
      (pairs_key (pairs_of (rest_pairs l.members)));
  less : pair_sizes (pairs_of (rest_pairs l.members))
      ≤ pair_sizes (pairs_of (rest_pairs l.fn.members));
}

abbrev pub decreases-append_members-loop-key : goal.decreases-append_members-loop-key
decreases-append_members-loop-key g l = length (rest_pairs l.members)
