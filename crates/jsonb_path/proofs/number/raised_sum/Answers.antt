use Rattle.std.proofs.Common.{arith}
use Rattle.jsonb_path.proofs.RaisedLaws.{past_sum}
use Rattle.jsonb_path.proofs.number.raised_sum.Goals as goal

pub returns-in_err-raised : goal.returns-in_err-raised
returns-in_err-raised c = grind (arith, past_sum)
