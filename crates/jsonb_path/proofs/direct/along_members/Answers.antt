use Rattle.std.proofs.Common.{◌∙◌}
use Rattle.jsonb.specs.Node.{node_tree}
use Rattle.jsonb_path.proofs.DirectLaws.{along_member}
use Rattle.jsonb_path.proofs.FollowLaws.{accessors_left}
use Rattle.jsonb_path.proofs.direct.along_members.Goals as goal

pub loop-left-preserved : goal.loop-left-preserved
loop-left-preserved c = record {
  same = λ place nodes.
      let is = c.in-Some.ensures place nodes in
      along_member place nodes c.loop-left.left.now c.accessor-item.result
      c.in-len1-up.len_at_least c.accessor-item.is (node_tree c.loop-left.node)
      (node_tree c.in-Some.value) is.0 is.1
      ∙ c.loop-left.invariant.same place nodes;
  left = λ ps all.
      accessors_left ps c.loop-left.left.now c.accessor-item.result c.in-len1-up.len_at_least
      c.accessor-item.is (c.loop-left.invariant.left ps all);
}
