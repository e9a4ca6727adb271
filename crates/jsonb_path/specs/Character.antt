-- The characters of a path's text.
use Rattle.std.specs.Prelude.{ℕ, Bool, false, not, ◌&&◌, ◌||◌, ◌==◌, nat_le, if◌then◌else◌}
use Rattle.std.specs.Prelude.{List, [], ◌∷◌, ◌++◌, length, encode_utf8, encode_utf8_all}
use Rattle.std.specs.Char.{is_ascii_digit}
use Rattle.jsonb_value.specs.Json.Characters.{quote, backslash}
use Rattle.jsonb_path.specs.declared.token.cursor.Class.{Class}
use Rattle.jsonb_path.specs.declared.token.cursor.Class.TheVariants.{Digit, Name}

-- White space: space, tab, line feed, carriage return, form feed.
abbrev pub is_white : ℕ → Bool
is_white c = (c == 32) || (c == 9) || (c == 10) || (c == 13) || (c == 12)

abbrev pub is_from_to : ℕ → ℕ → ℕ → Bool
is_from_to a b c = nat_le a c && nat_le c b

-- A mark, which ends a word: `!`, `#` to `&`, `(` to `/`, `:`, `<` to `@`, `[`, `]`, `{` to `}`.
abbrev pub is_mark : ℕ → Bool
is_mark c = (c == 33) || is_from_to 35 38 c || is_from_to 40 47 c || (c == 58)
    || is_from_to 60 64 c || (c == 91) || (c == 93) || is_from_to 123 125 c

-- It may stand in a word as it is.
abbrev pub is_in_name : ℕ → Bool
is_in_name c = not (is_white c) && not (is_mark c) && not (c == quote) && not (c == backslash)

abbrev pub passes : Class → ℕ → Bool
passes Digit c = is_ascii_digit c
passes Name c = is_in_name c

-- The characters begin with one of the class.
abbrev pub begins : Class → List ℕ → Bool
begins class [] = false
begins class (c ∷ s) = passes class c

-- All characters of the class at the beginning, after these bytes, and what is after them.
abbrev pub run : Class → List ℕ → List ℕ → List ℕ × List ℕ
run class front [] = (front, [])
run class front (c ∷ s) =
    if passes class c then run class (front ++ encode_utf8 c) s else (front, c ∷ s)

-- How many bytes the characters are.
abbrev pub byte_len : List ℕ → ℕ
byte_len s = length (encode_utf8_all s)
