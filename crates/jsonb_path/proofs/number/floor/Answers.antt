use Rattle.std.proofs.Common.{arith}
use Rattle.jsonb_path.proofs.WholeLaws.{floor_of_signed}
use Rattle.jsonb_path.proofs.number.floor.Goals as goal

pub returns : goal.returns
returns c = grind (arith, floor_of_signed)
