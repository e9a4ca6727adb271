-- The arithmetic of paths: exact over decimals.
use Rattle.std.specs.Prelude.{◌≡◌, ◌≢◌, ℕ, zero, suc, ℤ, pos, negsuc, neg_ℤ, ◌+◌, ◌-◌, ◌^◌, ◌≤◌}
use Rattle.std.specs.Prelude.{◌+ℤ◌, ◌-ℤ◌, ◌*ℤ◌, max, ◌↔◌, Option, Some, None, Result, Ok, Err}
use Rattle.std.specs.Prelude.{IfOk, IsOk, SomeIff, FitsSigned, int_rem, int_div, unsigned_abs}
use Rattle.std.specs.Int.{w128, int_div_euclid}
use Rattle.jsonb_value.specs.declared.number.Number.{Number}
use Rattle.jsonb_value.specs.Fraction.{Fraction}
use Rattle.jsonb_value.specs.Json.Numeral.{number_of}
use Rattle.jsonb_value.specs.Order.{fraction_of}
use Rattle.jsonb_path.specs.declared.number.NumberError.{NumberError}
use Rattle.jsonb_path.specs.declared.number.NumberError.TheVariants.{DivisionByZero, OutOfRange}

-- The value without its point at a scale that is no less: with zeros after its last digit.
abbrev pub value_at : ℕ → Fraction → ℤ
value_at scale x = x.value *ℤ pos (10 ^ (scale - x.scale))

-- The greater of both scales.
abbrev pub common_scale : Fraction → Fraction → ℕ
common_scale x y = max x.scale y.scale

-- The exact sum.
abbrev pub sum : Fraction → Fraction → Fraction
sum x y = let scale = common_scale x y in
    record { value = value_at scale x +ℤ value_at scale y; scale = scale }

-- The exact difference.
abbrev pub difference : Fraction → Fraction → Fraction
difference x y = let scale = common_scale x y in
    record { value = value_at scale x -ℤ value_at scale y; scale = scale }

-- The exact product.
abbrev pub product : Fraction → Fraction → Fraction
product x y = record { value = x.value *ℤ y.value; scale = x.scale + y.scale }

-- What is left of x where y is taken from it as often as it goes, with the sign of x.
abbrev pub remainder : Fraction → Fraction → Fraction
remainder x y = let scale = common_scale x y in
    record { value = int_rem (value_at scale x) (value_at scale y); scale = scale }

-- With the other sign.
abbrev pub negated : Fraction → Fraction
negated x = record { value = neg_ℤ x.value; scale = x.scale }

-- Without its sign.
abbrev pub unsigned : Fraction → Fraction
unsigned x = record { value = pos (unsigned_abs x.value); scale = x.scale }

-- The greatest integer that is not above.
abbrev pub floor_of : Fraction → ℤ
floor_of x = int_div_euclid x.value (pos (10 ^ x.scale))

-- The least integer that is not below.
abbrev pub ceiling_of : Fraction → ℤ
ceiling_of x = neg_ℤ (floor_of (negated x))

-- The integer before the point: cut towards zero.
abbrev pub whole_part_of : Fraction → ℤ
whole_part_of x = int_div x.value (pos (10 ^ x.scale))

-- The fraction has at most 255 digits after the point, and without it at most 128 bits.
abbrev pub Fits : Fraction → Type 0
Fits x = FitsSigned w128 x.value × (x.scale ≤ 255)

-- The number, or the error of a result that is none.
abbrev pub or_out_of_range : Option Number → Result Number NumberError
or_out_of_range None = Err OutOfRange
or_out_of_range (Some n) = Ok n

-- The number of the fraction, in the kind that its digits have in a text, if it is in range.
abbrev pub number_within : Fraction → Result Number NumberError
number_within x = or_out_of_range (number_of x.scale x.value)

-- The result is this fraction exactly, and a number wherever it fits.
pub record GivesExactly (x : Fraction) (result : Result Number NumberError) : Type 0 where
  pub number : result ≡ number_within x
  pub exact : IfOk result (λ n. fraction_of n ≡ x)
  pub range : IsOk result ↔ Fits x

-- The result is the remainder, which always fits, but where the divisor is zero.
pub record GivesRemainder (x y : Fraction) (result : Result Number NumberError) : Type 0 where
  pub divided : y.value ≢ pos 0 → IsOk result × GivesExactly (remainder x y) result
  pub by_zero : y.value ≡ pos 0 → result ≡ Err DivisionByZero

abbrev pub unless_zero : ℤ → Result Number NumberError → Result Number NumberError
unless_zero (pos zero) result = Err DivisionByZero
unless_zero (pos (suc n)) result = result
unless_zero (negsuc n) result = result

-- The remainder as a number, or the error where the divisor is zero.
abbrev pub remainder_within : Fraction → Fraction → Result Number NumberError
remainder_within x y = unless_zero y.value (number_within (remainder x y))

-- The number is this integer, in the kind that its digits have in a text.
pub record IsWhole (x : ℤ) (n : Number) : Type 0 where
  pub number : number_of 0 x ≡ Some n
  pub exact : fraction_of n ≡ record { value = x; scale = 0 }

-- The integer, if it fits 128 bits.
abbrev pub HoldsExactly : ℤ → Option ℤ → Type 0
HoldsExactly x held = SomeIff held (FitsSigned w128 x) x
