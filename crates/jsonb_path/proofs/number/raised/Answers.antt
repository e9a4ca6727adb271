use Rattle.std.proofs.Common.{arith}
use Rattle.jsonb_path.proofs.RaisedLaws.{raised_step, raised_past, raised_done}
use Rattle.jsonb_path.proofs.number.raised.Goals as goal

pub returns-in_err-raised : goal.returns-in_err-raised
returns-in_err-raised c = grind (arith, raised_past)

pub loop-zero-preserved : goal.loop-zero-preserved
loop-zero-preserved c = grind (arith, raised_step)

pub returns : goal.returns
returns c = grind (arith, raised_done)
