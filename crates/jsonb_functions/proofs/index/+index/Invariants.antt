-- Each call goes to values that hold less, and after what was appended come the keys of the rest.
use Rattle.std.proofs.Common.{◌≡◌, ◌++◌, ◌+◌, ◌*◌, ◌≤◌, ℕ, List, length}
use Rattle.jsonb_value.specs.Value.{trees_of}
use Rattle.jsonb_codec.specs.Depth.{size, sizes, pair_sizes}
use Rattle.jsonb.specs.Document.{document_tree}
use Rattle.jsonb.specs.EntryTrees.{rest_trees, rest_pairs}
use Rattle.jsonb.specs.Node.{node_tree, pairs_of}
use Rattle.jsonb_functions.specs.IndexHash.{hash_64, items_hashes, members_hashes, AppendsSome}
use Rattle.jsonb_functions.proofs.index.+index.Given as goal

abbrev pub decreases-append_keys : goal.decreases-append_keys
decreases-append_keys l = 3 * size (node_tree l.node) + 1

abbrev pub decreases-append_container_keys : goal.decreases-append_container_keys
decreases-append_container_keys l = 3 * size (document_tree l.document)

abbrev pub decreases-append_items_keys : goal.decreases-append_items_keys
decreases-append_items_keys l = 3 * sizes (trees_of (rest_trees l.items)) + 2

abbrev pub decreases-append_members_keys : goal.decreases-append_members_keys
decreases-append_members_keys l = 3 * pair_sizes (pairs_of (rest_pairs l.members)) + 2

abbrev pub invariant-append_items_keys-loop-item : goal.invariant-append_items_keys-loop-item
invariant-append_items_keys-loop-item l = record {
  going : (p : List ℕ) → l.path.hash ≡ hash_64 p
      → l.out.items ++ items_hashes p (trees_of (rest_trees l.items))
      ≡ l.fn.out.items ++ items_hashes p (trees_of (rest_trees l.fn.items));
  some : AppendsSome l.fn.out.items l.out.items;
  less : sizes (trees_of (rest_trees l.items)) ≤ sizes (trees_of (rest_trees l.fn.items));
}

abbrev pub decreases-append_items_keys-loop-item : goal.decreases-append_items_keys-loop-item
decreases-append_items_keys-loop-item l = length (rest_trees l.items)

abbrev pub invariant-append_members_keys-loop-key : goal.invariant-append_members_keys-loop-key
invariant-append_members_keys-loop-key l = record {
  going : (p : List ℕ) → l.path.hash ≡ hash_64 p
      → l.out.items ++ members_hashes p (pairs_of (rest_pairs l.members))
      ≡ l.fn.out.items ++ members_hashes p (pairs_of (rest_pairs l.fn.members));
  some : AppendsSome l.fn.out.items l.out.items;
  less : pair_sizes (pairs_of (rest_pairs l.members))
      ≤ pair_sizes (pairs_of (rest_pairs l.fn.members));
}

abbrev pub decreases-append_members_keys-loop-key : goal.decreases-append_members_keys-loop-key
decreases-append_members_keys-loop-key l = length (rest_pairs l.members)
