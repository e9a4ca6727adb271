use Rattle.jsonb.proofs.ObjectLaws.{ascend-keys}
use Rattle.jsonb.proofs.builder.write.are_stored_at.Goals as goal

pub returns-clause-ascend : goal.returns-clause-ascend
returns-clause-ascend g c = ascend-keys c.args.pairs.now.entries c.values.ensures.ordered
