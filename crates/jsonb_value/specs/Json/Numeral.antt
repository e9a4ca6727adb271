-- How a number is spelled, and the number that it means.
use Rattle.std.specs.Prelude.{ℕ, zero, suc, ℤ, pos, negsuc, neg_ℤ, ◌-ℤ◌, ◌*ℤ◌, ◌^◌, Bool, true}
use Rattle.std.specs.Prelude.{false, if◌then◌else◌, ◌&&◌, not, ◌==◌, nat_lt, List, [], ◌∷◌, ◌++◌}
use Rattle.std.specs.Prelude.{length, Option, Some, None}
use Rattle.std.specs.Char.{is_ascii_digit}
use Rattle.std.specs.Str.Parse.{digits_value}
use Rattle.jsonb_value.specs.declared.number.Number.{Number}
use Rattle.jsonb_value.specs.declared.number.Number.TheVariants.{Int64, UInt64, Decimal64}
use Rattle.jsonb_value.specs.declared.number.Number.TheVariants.{Decimal128}
use Rattle.jsonb_value.specs.declared.parser.number.Exponents.{Exponents}
use Rattle.jsonb_value.specs.declared.parser.number.Exponents.TheVariants.{Forbidden, Allowed}
use Rattle.jsonb_value.specs.NumCode.{is_within}
use Rattle.jsonb_value.specs.Json.Characters.{plus, minus, point, zero_digit, all_digits}
use Rattle.jsonb_value.specs.Json.Characters.{is_exponent_mark}

-- The sign of an exponent.
pub data Sign : Type 0 where
  no_sign : Sign
  plus_sign : Sign
  minus_sign : Sign

-- An exponent's characters: `E` or `e`, the sign and the digits.
pub record Exponent : Type 0 where
  pub mark : ℕ
  pub sign : Sign
  pub digits : List ℕ

-- A number's characters: whether it has a minus, the digits before the point, those after it (empty
-- without a point), and the exponent.
pub record Numeral : Type 0 where
  pub is_negative : Bool
  pub whole : List ℕ
  pub fraction : List ℕ
  pub exponent : Option Exponent

-- A minus, or nothing.
abbrev pub sign_text : Bool → List ℕ
sign_text true = minus ∷ []
sign_text false = []

-- A point and the digits, or nothing.
abbrev pub fraction_text : List ℕ → List ℕ
fraction_text [] = []
fraction_text (d ∷ ds) = point ∷ d ∷ ds

-- The character of an exponent's sign, or nothing.
abbrev pub exponent_sign_text : Sign → List ℕ
exponent_sign_text no_sign = []
exponent_sign_text plus_sign = plus ∷ []
exponent_sign_text minus_sign = minus ∷ []

-- The characters of the exponent, or nothing.
abbrev pub exponent_text : Option Exponent → List ℕ
exponent_text None = []
exponent_text (Some x) = x.mark ∷ (exponent_sign_text x.sign ++ x.digits)

-- All characters of the number.
abbrev pub numeral_text : Numeral → List ℕ
numeral_text n =
    sign_text n.is_negative ++ (n.whole ++ (fraction_text n.fraction ++ exponent_text n.exponent))

-- `0`, or digits that do not begin with `0`.
abbrev pub is_whole : List ℕ → Bool
is_whole [] = false
is_whole (d ∷ []) = is_ascii_digit d
is_whole (d ∷ e ∷ ds) = not (d == zero_digit) && all_digits (d ∷ e ∷ ds)

-- Digits, at least one.
abbrev pub are_digits : List ℕ → Bool
are_digits [] = false
are_digits (d ∷ ds) = all_digits (d ∷ ds)

-- There is no exponent, or one that is well formed where exponents are allowed.
abbrev pub is_exponent : Exponents → Option Exponent → Bool
is_exponent rule None = true
is_exponent Forbidden (Some x) = false
is_exponent Allowed (Some x) = is_exponent_mark x.mark && are_digits x.digits

-- The characters form a JSON number, whose exponent is allowed.
abbrev pub is_numeral : Exponents → Numeral → Bool
is_numeral rule n =
    is_whole n.whole && all_digits n.fraction && is_exponent rule n.exponent

-- The magnitude with its sign.
abbrev pub signed_number : Bool → ℕ → ℤ
signed_number true m = neg_ℤ (pos m)
signed_number false m = pos m

-- The integer that remains when the point is removed.
abbrev pub value_without_point : Numeral → ℤ
value_without_point n = signed_number n.is_negative (digits_value 10 (n.whole ++ n.fraction))

-- The exponent's sign is a minus.
abbrev pub is_minus : Sign → Bool
is_minus no_sign = false
is_minus plus_sign = false
is_minus minus_sign = true

-- The integer that the exponent means, 0 without one.
abbrev pub exponent_value : Option Exponent → ℤ
exponent_value None = pos 0
exponent_value (Some x) = signed_number (is_minus x.sign) (digits_value 10 x.digits)

-- A decimal of 128 bits, if the value fits.
abbrev pub wide_number : ℕ → ℤ → Option Number
wide_number scale v =
    if is_within 127 v then Some (Decimal128 (record { scale = scale; value = v })) else None

-- A number without a point: `UInt64` if it fits, else `Int64`, else a decimal of 128 bits and scale
-- 0.
abbrev pub whole_number : ℤ → Option Number
whole_number (pos m) = if nat_lt m (2 ^ 64) then Some (UInt64 m) else wide_number 0 (pos m)
whole_number (negsuc m) =
    if is_within 63 (negsuc m) then Some (Int64 (negsuc m)) else wide_number 0 (negsuc m)

-- A number with this many fraction digits, at most 255, and this value without the point.
abbrev pub decimal_number : ℕ → ℤ → Option Number
decimal_number scale v =
    if nat_lt 255 scale then None else if is_within 63 v
    then Some (Decimal64 (record { scale = scale; value = v })) else wide_number scale v

-- The number with this many fraction digits and this value without the point, if it is in range.
abbrev pub number_of : ℕ → ℤ → Option Number
number_of zero v = whole_number v
number_of (suc scale) v = decimal_number (suc scale) v

-- The value divided by 10^scale, if that is in range: a whole number where the scale is 0 or less.
abbrev pub scaled_number : (scale value : ℤ) → Option Number
scaled_number (pos scale) v = number_of scale v
scaled_number (negsuc n) v = whole_number (v *ℤ pos (10 ^ suc n))

-- The number that the characters mean, if they mean one. Its scale is the count of fraction digits
-- less the exponent.
abbrev pub numeral_meaning : Exponents → Numeral → Option Number
numeral_meaning rule n =
    if is_numeral rule n
    then scaled_number (pos (length n.fraction) -ℤ exponent_value n.exponent)
    (value_without_point n) else None
