use Rattle.jsonb.proofs.PayloadLaws.{number_in-given}
use Rattle.jsonb.proofs.number_item.NumberItem.from_bytes.Goals as goal

pub invariant_of-result : goal.invariant_of-result
invariant_of-result c = record { means = number_in-given c.args.bytes _ c.in_ok-number.ensures.ok }
