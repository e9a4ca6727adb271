use Rattle.std.proofs.Common.{arith}
use Rattle.jsonb_path.proofs.WholeLaws.{difference_is}
use Rattle.jsonb_path.proofs.number.subtract.Goals as goal

pub returns : goal.returns
returns c = grind (arith, difference_is)
