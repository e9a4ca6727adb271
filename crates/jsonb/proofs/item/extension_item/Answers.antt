use Rattle.std.proofs.Common.{rules}
use Rattle.jsonb.proofs.PayloadLaws.{extension_item-none}
use Rattle.jsonb.proofs.item.extension_item.Goals as goal

pub returns-in_err-from_bytes : goal.returns-in_err-from_bytes
returns-in_err-from_bytes c =
    let none = extension_item-none c.args.bytes.now c.in_err-from_bytes.ensures.none in search rules
