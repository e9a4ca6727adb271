use Rattle.jsonb.specs.Node.{node_tree}
use Rattle.jsonb_path.specs.Found.{place_of}
use Rattle.jsonb_path.proofs.DirectLaws.{end_missing}
use Rattle.jsonb_path.proofs.direct.end_of.Goals as goal

pub returns-then-is_missing : goal.returns-then-is_missing
returns-then-is_missing c nodes =
    end_missing (place_of c.args.place.now) c.args.place.now.mode nodes c.args.left.now
    c.accessor-item.result c.in-len1-up.len_at_least c.accessor-item.is (node_tree c.args.node)
    (c.is_missing.ensures nodes c.if-is_missing.true)
