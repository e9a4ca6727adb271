use Rattle.jsonb.proofs.ContentLaws.{IsHeld-extension_given}
use Rattle.jsonb.proofs.extension_item.ExtensionItem.payload.Goals as goal

pub returns-in-Some-clause-held : goal.returns-in-Some-clause-held
returns-in-Some-clause-held c = IsHeld-extension_given c.args.self.now c.in-Some.bytes c.in-Some.is
