use Rattle.jsonb.proofs.ContentLaws.{IsHeld-number_given}
use Rattle.jsonb.proofs.number_item.NumberItem.payload.Goals as goal

pub returns-in-Some-clause-held : goal.returns-in-Some-clause-held
returns-in-Some-clause-held c = IsHeld-number_given c.args.self.now c.in-Some.bytes c.in-Some.is
