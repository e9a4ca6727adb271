-- A decimal as its sign and its digits.
use Rattle.std.specs.Prelude.{ℕ, zero, suc, ℤ, pos, ◌*ℤ◌, ◌/◌, ◌^◌}
use Rattle.jsonb_value.specs.Fraction.{Fraction}
use Rattle.jsonb_value.specs.Json.Numeral.{signed_number}
use Rattle.jsonb_path.specs.declared.number.Decimal.{Decimal}

-- The value without the point.
abbrev pub decimal_value : Decimal → ℤ
decimal_value d = signed_number d.is_negative d.magnitude

-- The exact value.
abbrev pub decimal_fraction : Decimal → Fraction
decimal_fraction d = record { value = decimal_value d; scale = d.scale }

-- The value without the point, with further zeros.
abbrev pub raised_value : Decimal → ℕ → ℤ
raised_value d zeros = decimal_value d *ℤ pos (10 ^ zeros)

-- The quotient, and one more if there is a remainder.
abbrev pub divided_above : ℕ → ℕ → ℕ
divided_above zero divisor = 0
divided_above (suc m) divisor = suc (m / divisor)
