-- Escapes, after their backslash: the character that they mean, and what is after them.
use Rattle.std.specs.Prelude.{ℕ, ◌+◌, ◌-◌, ◌*◌, Bool, ◌&&◌, ◌||◌, ◌==◌, nat_le, if◌then◌else◌}
use Rattle.std.specs.Prelude.{List, [], ◌∷◌, Option, Some, None}
use Rattle.std.specs.Char.{digit_value, is_digit}
use Rattle.jsonb_value.specs.Json.Bind.{◌>>=◌}
use Rattle.jsonb_value.specs.Json.Characters.{backslash, letter_u, open_brace, close_brace}
use Rattle.jsonb_value.specs.Json.Piece.{unit4, unit_value, is_high, is_low, pair_character}
use Rattle.jsonb_path.specs.Character.{byte_len}

-- `b`, `f`, `n`, `r`, `t` and `v` mean backspace, form feed, line feed, carriage return, tab and
-- vertical tab, any other character itself; but a line feed may not be escaped.
abbrev pub escape_letter : ℕ → Option ℕ
escape_letter c =
    if c == 98 then Some 8 else if c == 102 then Some 12 else if c == 110 then Some 10
    else if c == 114 then Some 13 else if c == 116 then Some 9 else if c == 118 then Some 11
    else if c == 10 then None else Some c

-- The character of a code point: not of 0, and not of half a pair.
abbrev pub scalar : ℕ → Option ℕ
scalar u = if (u == 0) || (is_high u || is_low u) then None else Some u

-- Two hexadecimal digits.
unfoldable pub two_digits : List ℕ → Option (ℕ × List ℕ)
two_digits (a ∷ b ∷ s) =
    if is_digit a 16 && is_digit b 16
    then (scalar (digit_value a * 16 + digit_value b) >>= λ c. Some (c, s)) else None
two_digits _ = None

-- Four hexadecimal digits.
unfoldable pub four_digits : List ℕ → Option (ℕ × List ℕ)
four_digits (a ∷ b ∷ c ∷ d ∷ s) = unit_value (unit4 a b c d) >>= λ u. Some (u, s)
four_digits _ = None

-- A number with one more hexadecimal digit, if it is at most the last code point.
abbrev pub with_digit : ℕ → ℕ → Option ℕ
with_digit u c =
    if is_digit c 16 && nat_le (u * 16 + digit_value c) 0x10ffff
    then Some (u * 16 + digit_value c) else None

-- Hexadecimal digits after this number, and a closing brace.
abbrev pub braced_after : ℕ → List ℕ → Option (ℕ × List ℕ)
braced_after u [] = None
braced_after u (c ∷ s) =
    if c == close_brace then Some (u, s) else (with_digit u c >>= λ v. braced_after v s)

-- One to six digits and a brace.
abbrev pub is_braced : ℕ → ℕ → Bool
is_braced all after = nat_le 2 (all - after) && nat_le (all - after) 7

abbrev pub if_braced : List ℕ → ℕ × List ℕ → Option (ℕ × List ℕ)
if_braced s u = if is_braced (byte_len s) (byte_len u.1) then Some u else None

unfoldable pub braced : List ℕ → Option (ℕ × List ℕ)
braced s = braced_after 0 s >>= if_braced s

-- A code point: four digits, or one to six in braces.
unfoldable pub code_point : List ℕ → Option (ℕ × List ℕ)
code_point [] = None
code_point (c ∷ s) = if c == open_brace then braced s else four_digits (c ∷ s)

-- The second half of a pair: `\u` and a code point.
unfoldable pub low_half : List ℕ → Option (ℕ × List ℕ)
low_half (b ∷ u ∷ s) = if (b == backslash) && (u == letter_u) then code_point s else None
low_half _ = None

-- The character of this half of a pair and the other one.
abbrev pub with_low : ℕ → ℕ × List ℕ → Option (ℕ × List ℕ)
with_low high low = pair_character high low.0 >>= λ c. Some (c, low.1)

-- The character of a code point, or of two that are a pair.
abbrev pub from_point : ℕ × List ℕ → Option (ℕ × List ℕ)
from_point u =
    if is_high u.0 then (low_half u.1 >>= with_low u.0)
    else (scalar u.0 >>= λ c. Some (c, u.1))

unfoldable pub unicode : List ℕ → Option (ℕ × List ℕ)
unicode s = code_point s >>= from_point

-- `\uXXXX`, `\u{X}`, `\xXX`, or a letter.
unfoldable pub escape_at : List ℕ → Option (ℕ × List ℕ)
escape_at [] = None
escape_at (c ∷ s) =
    if c == letter_u then unicode s else if c == 120 then two_digits s
    else (escape_letter c >>= λ x. Some (x, s))
