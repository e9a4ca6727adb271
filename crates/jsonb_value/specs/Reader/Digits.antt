-- Numbers that may exceed 128 bits.
use Rattle.std.specs.Prelude.{◌≡◌, ℕ, ℤ, ◌<◌, ◌^◌, Option, SomeIff, length, List}
use Rattle.std.specs.Str.Parse.{digits_value_after}
use Rattle.jsonb_value.specs.declared.parser.number.Digits.{Digits}
use Rattle.jsonb_value.specs.declared.parser.number.short.ShortDigits.{ShortDigits}
use Rattle.jsonb_value.specs.declared.parser.number.Integer.{Integer}
use Rattle.jsonb_value.specs.Json.Numeral.{signed_number}

-- `counted` is the number n, or nothing if n exceeds 128 bits.
abbrev pub IsCounted : ℕ → Option ℕ → Type 0
IsCounted n counted = SomeIff counted (n < 2 ^ 128) n

-- `digits` has the count of these digits and the number that they form after the digits of n.
pub record AreDigits (n : ℕ) (ds : List ℕ) (digits : Digits) : Type 0 where
  pub count : digits.count ≡ length ds
  pub value : IsCounted (digits_value_after 10 n ds) digits.value

-- `integer` has the sign and the magnitude of z.
pub record HasInteger (z : ℤ) (integer : Integer) : Type 0 where
  pub magnitude : ℕ
  pub is_counted : IsCounted magnitude integer.magnitude
  pub is_value : z ≡ signed_number integer.is_negative magnitude

-- `digits` has the count of these digits and the number below 10^18 that they form after the digits
-- of n.
pub record IsShort (digits : ShortDigits) (n : ℕ) (ds : List ℕ) : Type 0 where
  pub count : digits.count ≡ length ds
  pub value : digits.value ≡ digits_value_after 10 n ds
  pub short : digits.value < 10 ^ 18
