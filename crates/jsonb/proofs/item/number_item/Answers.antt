use Rattle.std.proofs.Common.{arith}
use Rattle.std.proofs.lemmas.Grind.{common_steps}
use Rattle.jsonb.proofs.PayloadLaws.{number_item-none}
use Rattle.jsonb.proofs.item.number_item.Goals as goal

pub returns-in_err-from_bytes : goal.returns-in_err-from_bytes
returns-in_err-from_bytes c =
    let none = number_item-none c.args.bytes.now c.in_err-from_bytes.ensures.none in grind
    (arith, common_steps)
