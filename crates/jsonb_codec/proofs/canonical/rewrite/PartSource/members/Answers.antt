use Rattle.jsonb_codec.proofs.PartLaws.{object_members}
use Rattle.jsonb_codec.proofs.canonical.rewrite.PartSource.members.Goals as goal

pub returns-clause-are : goal.returns-clause-are
returns-clause-are c = object_members c.args.object c.members.result c.members.ensures.members
