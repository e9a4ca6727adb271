use Rattle.std.proofs.lemmas.Grind.{common_steps}
use Rattle.std.proofs.Common.{arith}
use Rattle.std.proofs.Common.{rules}
use Rattle.jsonb_value.proofs.Codes.{written_bytes}
use Rattle.jsonb_value.proofs.number.append_decimal128.Goals as goal

pub returns : goal.returns
returns c =
    grind (arith, common_steps, rules, written_bytes)
