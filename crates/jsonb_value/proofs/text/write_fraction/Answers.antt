use Rattle.std.proofs.Common.{arith}
use Rattle.jsonb_value.proofs.Decimals.{pointed-long, pointed-short}
use Rattle.jsonb_value.proofs.Writing.{joins_three}
use Rattle.jsonb_value.proofs.text.write_fraction.Goals as goal

pub returns-in_ok-write_str-2 : goal.returns-in_ok-write_str-2
returns-in_ok-write_str-2 g c flush ok = grind (arith, pointed-long, joins_three)

pub returns-in_ok-write_repeated : goal.returns-in_ok-write_repeated
returns-in_ok-write_repeated g c flush ok =
    grind (arith, joins_three, pointed-short)
