use Rattle.std.proofs.Common.{arith}
use Rattle.jsonb_path.proofs.WholeLaws.{product_of_signed}
use Rattle.jsonb_path.proofs.number.product_value.Goals as goal

pub returns : goal.returns
returns c = grind (arith, product_of_signed)
