use Rattle.std.proofs.Common.{refl, rules}
use Rattle.jsonb.specs.Node.{node_tree}
use Rattle.kohiblad.proofs.MemberTableLaws.{passed_all, passed_on}
use Rattle.kohiblad.proofs.member_table.MemberTable.of_members.Goals as goal

pub loop-key-preserved : goal.loop-key-preserved
loop-key-preserved c = record {
  keys = passed_on (λ key. key.now) (λ p. p.0) _ _ c.in-Some.key _ _ _ _ (search rules)
      c.in-Some.ensures refl c.loop-key.invariant.keys;
  values = passed_on node_tree (λ p. p.1) _ _ c.in-Some.value _ _ _ _ (search rules)
      c.in-Some.ensures refl c.loop-key.invariant.values;
}

pub returns-clause-ok : goal.returns-clause-ok
returns-clause-ok c = record {
  keys = passed_all _ _ _ _ _ c.in_default.ensures.0 c.loop-key.invariant.keys;
  values = passed_all _ _ _ _ _ c.in_default.ensures.0 c.loop-key.invariant.values;
}
