use Rattle.jsonb_codec.proofs.SortOrder.{Ascend-pairs_view}
use Rattle.jsonb_codec.proofs.ser.value.RefValueSource.members.Goals as goal

pub returns-clause-held : goal.returns-clause-held
returns-clause-held c h = (
  Ascend-pairs_view c.args.object.now.entries c.iter.ensures.ordered,
  rw c.iter.ensures.rest at h,
)
