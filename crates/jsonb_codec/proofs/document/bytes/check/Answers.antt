use Rattle.std.proofs.Common.{arith}
use Rattle.jsonb_codec.proofs.document.bytes.check.Goals as goal

pub returns-in-Err-clause-decided : goal.returns-in-Err-clause-decided
returns-in-Err-clause-decided c = c.in-Err.ensures _ (λ is. omega arith)
