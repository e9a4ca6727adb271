-- After what was appended come the hashes of the members that are left.
use Rattle.std.proofs.Common.{◌≡◌, ◌++◌, length}
use Rattle.jsonb.specs.EntryTrees.{rest_pairs}
use Rattle.jsonb.specs.Node.{pairs_of}
use Rattle.jsonb_functions.specs.IndexHash.{AppendsSome}
use Rattle.jsonb_functions.specs.TopKeys.{member_hashes}
use Rattle.jsonb_functions.proofs.top_keys.append_names.Given as goal

abbrev pub invariant-loop-name : goal.invariant-loop-name
invariant-loop-name l = record {
  going : l.out.items ++ member_hashes (pairs_of (rest_pairs l.members))
      ≡ l.fn.out.items ++ member_hashes (pairs_of (rest_pairs l.fn.members));
  some : AppendsSome l.fn.out.items l.out.items;
}

abbrev pub decreases-loop-name : goal.decreases-loop-name
decreases-loop-name l = length (rest_pairs l.members)
