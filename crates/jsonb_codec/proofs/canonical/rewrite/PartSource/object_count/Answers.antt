use Rattle.jsonb_codec.proofs.PartLaws.{object_count}
use Rattle.jsonb_codec.proofs.canonical.rewrite.PartSource.object_count.Goals as goal

pub returns : goal.returns
returns c = object_count c.args.object
