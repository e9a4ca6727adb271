use Rattle.std.proofs.Common.{arith}
use Rattle.std.proofs.lemmas.Int.{to_z-of_z}
use Rattle.jsonb_value.proofs.Writing.{joins_five}
use Rattle.jsonb_value.proofs.text.write_interval.Goals as goal

pub returns : goal.returns
returns g c flush ok =
    grind (arith, joins_five, to_z-of_z)
