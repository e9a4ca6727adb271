use Rattle.std.proofs.Common.{arith}
use Rattle.jsonb_value.proofs.PayloadLengths.{is_power_of_two-whole}
use Rattle.jsonb_value.proofs.number.is_whole_length.Goals as goal

pub returns-then-length-le8 : goal.returns-then-length-le8
returns-then-length-le8 c =
    grind (arith, is_power_of_two-whole)
