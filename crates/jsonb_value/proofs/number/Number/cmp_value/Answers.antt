use Rattle.std.proofs.Common.{arith}
use Rattle.jsonb_value.proofs.number.Number.cmp_value.Goals as goal

pub returns-in_default : goal.returns-in_default
returns-in_default c =
    grind arith
