-- Characters that a terminal may obey, and their escapes.
use Rattle.std.specs.Prelude.{◌==◌, ◌||◌, ◌&&◌, ◌+◌, ◌-◌, ◌/◌, ◌%◌, ℕ, Bool, nat_le, nat_lt}
use Rattle.std.specs.Prelude.{List, [], ◌∷◌, ◌++◌, chars, cond, drop, encode_utf8_all, flat_map}
use Rattle.std.specs.Prelude.{if◌then◌else◌}
use Rattle.std.specs.Int.{w32, to_be_bytes}
use Rattle.hex.specs.Hex.{encode_lower}

-- Whether a number is one of these, from the first to the last.
abbrev pub is_between : ℕ → ℕ → ℕ → Bool
is_between first last n = nat_le first n && nat_le n last

-- Whether a character has an escape: a control character, a separator of lines, and one that
-- changes the direction or the look of the text around it.
abbrev pub is_escaped : ℕ → Bool
is_escaped c = nat_le c 31 || is_between 127 159 c || c == 173 || c == 1564 || c == 6158
    || is_between 8203 8207 c || is_between 8232 8238 c || is_between 8288 8303 c || c == 65279
    || is_between 917504 921599 c

-- The escape of a unit of UTF-16, as JSON has it: four hexadecimal digits after `\u`.
abbrev pub escaped_unit : ℕ → List ℕ
escaped_unit unit = 92 ∷ (117 ∷ encode_lower (drop 2 (to_be_bytes w32 unit)))

-- The escape of a character: one unit, or two.
abbrev pub escape : ℕ → List ℕ
escape c = if nat_lt c 65536 then escaped_unit c
    else escaped_unit (55296 + (c - 65536) / 1024) ++ escaped_unit (56320 + c % 1024)

-- A character, or its escape.
abbrev pub shown_char : ℕ → List ℕ
shown_char c = cond (is_escaped c) (escape c) (c ∷ [])

-- A text with escapes.
unfoldable pub escaped_text : List ℕ → List ℕ
escaped_text text = encode_utf8_all (flat_map shown_char (chars text))
