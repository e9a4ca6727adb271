use Rattle.std.proofs.Common.{arith, length-append}
use Rattle.std.proofs.lemmas.Int.{to_z-of_z}
use Rattle.jsonb_value.proofs.text_len.extension_len.Goals as goal

pub returns-in-Interval : goal.returns-in-Interval
returns-in-Interval c = grind (arith, to_z-of_z, length-append)
