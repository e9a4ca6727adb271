use Rattle.std.proofs.Common.{arith}
use Rattle.jsonb_path.proofs.WholeLaws.{ceiling_of_signed}
use Rattle.jsonb_path.proofs.number.ceiling.Goals as goal

pub returns : goal.returns
returns c = grind (arith, ceiling_of_signed)
