use Rattle.jsonb.proofs.PayloadLaws.{extension_in-given}
use Rattle.jsonb.proofs.extension_item.ExtensionItem.from_bytes.Goals as goal

pub invariant_of-result : goal.invariant_of-result
invariant_of-result c =
    record { means = extension_in-given c.args.bytes _ c.in_ok-value.ensures.ok }
