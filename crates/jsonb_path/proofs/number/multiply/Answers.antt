use Rattle.std.proofs.Common.{arith}
use Rattle.jsonb_path.proofs.number.multiply.Goals as goal

pub returns : goal.returns
returns c = grind (arith)
