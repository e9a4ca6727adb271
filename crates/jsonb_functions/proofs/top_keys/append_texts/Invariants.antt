-- After what was appended come the hashes of the items that are left.
use Rattle.std.proofs.Common.{◌≡◌, ◌++◌, length}
use Rattle.jsonb_value.specs.Value.{trees_of}
use Rattle.jsonb.specs.EntryTrees.{rest_trees}
use Rattle.jsonb_functions.specs.IndexHash.{AppendsSome}
use Rattle.jsonb_functions.specs.TopKeys.{item_hashes}
use Rattle.jsonb_functions.proofs.top_keys.append_texts.Given as goal

abbrev pub invariant-loop-item : goal.invariant-loop-item
invariant-loop-item l = record {
  going : l.out.items ++ item_hashes (trees_of (rest_trees l.items))
      ≡ l.fn.out.items ++ item_hashes (trees_of (rest_trees l.fn.items));
  some : AppendsSome l.fn.out.items l.out.items;
}

abbrev pub decreases-loop-item : goal.decreases-loop-item
decreases-loop-item l = length (rest_trees l.items)
