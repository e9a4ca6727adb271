-- The table has the members that were passed.
use Rattle.std.proofs.Common.{◌≡◌, ◌++◌, length, map}
use Rattle.jsonb.specs.EntryTrees.{rest_pairs}
use Rattle.jsonb.specs.Node.{node_tree}
use Rattle.kohiblad.proofs.member_table.MemberTable.of_members.Given as goal

abbrev pub invariant-loop-key : goal.invariant-loop-key
invariant-loop-key l = record {
  keys : map (λ key. key.now) l.keys.items ++ map (λ p. p.0) (rest_pairs l.members)
      ≡ map (λ p. p.0) (rest_pairs l.fn.members);
  values : map node_tree l.values.items ++ map (λ p. p.1) (rest_pairs l.members)
      ≡ map (λ p. p.1) (rest_pairs l.fn.members);
}

abbrev pub decreases-loop-key : goal.decreases-loop-key
decreases-loop-key l = length (rest_pairs l.members)
