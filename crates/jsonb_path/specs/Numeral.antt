-- How a number is written in a path: its bytes, after these, and what is after it.
use Rattle.std.specs.Prelude.{ℕ, Bool, false, ◌&&◌, ◌||◌, ◌==◌, if◌then◌else◌, List, [], ◌∷◌}
use Rattle.std.specs.Prelude.{◌++◌, Option, Some, None, encode_utf8}
use Rattle.std.specs.Char.{is_ascii_digit}
use Rattle.jsonb_value.specs.Json.Characters.{is_exponent_mark, minus, plus, point, zero_digit}
use Rattle.jsonb_path.specs.Character.{begins, run}
use Rattle.jsonb_path.specs.declared.token.cursor.Class.TheVariants.{Digit}

-- A digit, or a point and a digit.
abbrev pub begins_numeral : List ℕ → Bool
begins_numeral [] = false
begins_numeral (c ∷ s) = if c == point then begins Digit s else is_ascii_digit c

-- A point and the digits after it, or nothing.
abbrev pub fraction : List ℕ → List ℕ → List ℕ × List ℕ
fraction front [] = (front, [])
fraction front (c ∷ s) =
    if c == point then run Digit (front ++ encode_utf8 c) s else (front, c ∷ s)

-- A sign, or none.
abbrev pub after_sign : List ℕ → Option ℕ × List ℕ
after_sign [] = (None, [])
after_sign (c ∷ s) = if (c == plus) || (c == minus) then (Some c, s) else (None, c ∷ s)

abbrev pub with_sign : List ℕ → Option ℕ → List ℕ
with_sign front None = front
with_sign front (Some c) = front ++ encode_utf8 c

-- `e`, a sign or none and digits, or nothing.
abbrev pub exponent : List ℕ → List ℕ → List ℕ × List ℕ
exponent front [] = (front, [])
exponent front (c ∷ s) =
    if is_exponent_mark c && begins Digit (after_sign s).1
    then run Digit (with_sign (front ++ encode_utf8 c) (after_sign s).0) (after_sign s).1
    else (front, c ∷ s)

abbrev pub and_fraction : List ℕ × List ℕ → List ℕ × List ℕ
and_fraction x = fraction x.0 x.1

abbrev pub and_exponent : List ℕ × List ℕ → List ℕ × List ℕ
and_exponent x = exponent x.0 x.1

-- After the first character: digits after a point; and after a digit the others, which a zero has
-- not, and a fraction.
abbrev pub after_character : List ℕ → ℕ → List ℕ → List ℕ × List ℕ
after_character front c s =
    if c == point then run Digit front s
    else if c == zero_digit then fraction front s else and_fraction (run Digit front s)

-- The longest number.
unfoldable pub numeral_at : List ℕ → List ℕ → List ℕ × List ℕ
numeral_at front [] = (front, [])
numeral_at front (c ∷ s) = and_exponent (after_character (front ++ encode_utf8 c) c s)
