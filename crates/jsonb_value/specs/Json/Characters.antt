-- The codes of the characters that have a meaning in JSON.
use Rattle.std.specs.Prelude.{ℕ, List, [], ◌∷◌, Bool, true, not, ◌||◌, ◌&&◌, ◌==◌}
use Rattle.std.specs.Char.{is_ascii_digit}

-- The code of `"`.
abbrev pub quote : ℕ
quote = 34

-- The code of `+`.
abbrev pub plus : ℕ
plus = 43

-- The code of `,`.
abbrev pub comma : ℕ
comma = 44

-- The code of `-`.
abbrev pub minus : ℕ
minus = 45

-- The code of `.`.
abbrev pub point : ℕ
point = 46

-- The code of `0`.
abbrev pub zero_digit : ℕ
zero_digit = 48

-- The code of `:`.
abbrev pub colon : ℕ
colon = 58

-- The code of `[`.
abbrev pub open_bracket : ℕ
open_bracket = 91

-- The code of `\`.
abbrev pub backslash : ℕ
backslash = 92

-- The code of `]`.
abbrev pub close_bracket : ℕ
close_bracket = 93

-- The code of `u`.
abbrev pub letter_u : ℕ
letter_u = 117

-- The code of `{`.
abbrev pub open_brace : ℕ
open_brace = 123

-- The code of `}`.
abbrev pub close_brace : ℕ
close_brace = 125

-- The character is white space: space, tab, line feed or carriage return.
abbrev pub is_blank : ℕ → Bool
is_blank c = (c == 32) || (c == 9) || (c == 10) || (c == 13)

-- The character is not white space.
abbrev pub is_not_blank : ℕ → Bool
is_not_blank c = not (is_blank c)

-- The character begins an exponent: `E` or `e`.
abbrev pub is_exponent_mark : ℕ → Bool
is_exponent_mark c = (c == 69) || (c == 101)

-- Every character is white space.
abbrev pub all_blank : List ℕ → Bool
all_blank [] = true
all_blank (c ∷ s) = is_blank c && all_blank s

-- Every character is a decimal digit.
abbrev pub all_digits : List ℕ → Bool
all_digits [] = true
all_digits (c ∷ s) = is_ascii_digit c && all_digits s
