use Rattle.jsonb.specs.Node.{node_tree}
use Rattle.jsonb_path.proofs.DirectLaws.{member_led}
use Rattle.jsonb_path.proofs.direct.member_at.Goals as goal

pub returns-in-Member : goal.returns-in-Member
returns-in-Member c =
    member_led c.args.accessor.now c.in-Member.name c.value_named.result (node_tree c.args.node)
    c.in-Member.is (cc (c.value_named.ensures, c.deref.ensures))
