use Rattle.std.proofs.Common.{arith}
use Rattle.jsonb_value.proofs.Json.Exponents.{power_large, product_large}
use Rattle.jsonb_value.proofs.parser.number.with_zeros.Goals as goal

pub returns-in_err-ok : goal.returns-in_err-ok
returns-in_err-ok c = grind (arith, power_large, product_large)
