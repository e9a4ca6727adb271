use Rattle.std.proofs.Common.{arith}
use Rattle.jsonb_value.proofs.Decimals.{length-point_text}
use Rattle.jsonb_value.proofs.text_len.fraction_len.Goals as goal

pub returns-clause-value : goal.returns-clause-value
returns-clause-value c = grind (arith, length-point_text)
