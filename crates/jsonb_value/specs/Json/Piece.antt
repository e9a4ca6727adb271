-- The pieces of a string: how each is spelled, and the character that it means.
use Rattle.std.specs.Prelude.{ℕ, ◌+◌, ◌-◌, ◌*◌, Bool, cond, not, ◌&&◌, ◌||◌, ◌==◌, nat_lt, nat_le}
use Rattle.std.specs.Prelude.{List, [], ◌∷◌, ◌++◌, Option, Some, None, encode_utf8}
use Rattle.std.specs.Char.{digit_value, is_digit}
use Rattle.jsonb_value.specs.Json.Characters.{quote, backslash, letter_u}
use Rattle.jsonb_value.specs.Json.Bind.{◌>>=◌}

-- Four hexadecimal digits.
pub data Unit4 : Type 0 where
  unit4 : (a b c d : ℕ) → Unit4

-- An unescaped character, an escape by one letter, an escape by four digits, or two such escapes
-- that form one character.
pub data Piece : Type 0 where
  plain : ℕ → Piece
  escape : ℕ → Piece
  unit : Unit4 → Piece
  surrogates : (high low : Unit4) → Piece

-- The characters of an escape by four digits.
abbrev pub unit_text : Unit4 → List ℕ
unit_text (unit4 a b c d) = backslash ∷ letter_u ∷ a ∷ b ∷ c ∷ d ∷ []

-- The characters of a piece.
abbrev pub piece_text : Piece → List ℕ
piece_text (plain c) = c ∷ []
piece_text (escape c) = backslash ∷ c ∷ []
piece_text (unit u) = unit_text u
piece_text (surrogates high low) = unit_text high ++ unit_text low

-- The characters of all pieces.
abbrev pub pieces_text : List Piece → List ℕ
pieces_text [] = []
pieces_text (p ∷ ps) = piece_text p ++ pieces_text ps

-- The number of four hexadecimal digits of either case.
abbrev pub unit_value : Unit4 → Option ℕ
unit_value (unit4 a b c d) =
    cond (is_digit a 16 && is_digit b 16 && is_digit c 16 && is_digit d 16)
    (Some (digit_value a * 4096 + digit_value b * 256 + digit_value c * 16 + digit_value d)) None

-- The character that an escape by one letter means: `"`, `\` and `/` themselves, and `b`, `f`, `n`,
-- `r`, `t` for backspace, form feed, line feed, carriage return and tab.
abbrev pub escape_value : ℕ → Option ℕ
escape_value c =
    cond ((c == quote) || (c == backslash) || (c == 47)) (Some c)
    (cond (c == 98) (Some 8)
    (cond (c == 102) (Some 12)
    (cond (c == 110) (Some 10) (cond (c == 114) (Some 13) (cond (c == 116) (Some 9) None)))))

-- The unit is the first half of a surrogate pair.
abbrev pub is_high : ℕ → Bool
is_high u = nat_le 0xd800 u && nat_lt u 0xdc00

-- The unit is the second half of a surrogate pair.
abbrev pub is_low : ℕ → Bool
is_low u = nat_le 0xdc00 u && nat_lt u 0xe000

-- The character of one unit, unless it is half of a surrogate pair.
abbrev pub unit_character : ℕ → Option ℕ
unit_character u = cond (is_high u || is_low u) None (Some u)

-- the character of a surrogate pair.
abbrev pub pair_character : ℕ → ℕ → Option ℕ
pair_character high low = cond (is_high high && is_low low)
    (Some (0x10000 + (high - 0xd800) * 1024 + (low - 0xdc00))) None

-- The character may be written unescaped: all but the quote, the backslash and control characters.
abbrev pub is_plain : ℕ → Bool
is_plain c = nat_le 32 c && not (c == quote) && not (c == backslash)

-- The character that a piece means, if it means one.
abbrev pub piece_meaning : Piece → Option ℕ
piece_meaning (plain c) = cond (is_plain c) (Some c) None
piece_meaning (escape c) = escape_value c
piece_meaning (unit u) = unit_value u >>= unit_character
piece_meaning (surrogates high low) = unit_value high >>= λ h. unit_value low >>= pair_character h

-- The characters that the pieces mean, in UTF-8.
abbrev pub pieces_meaning : List Piece → Option (List ℕ)
pieces_meaning [] = Some []
pieces_meaning (p ∷ ps) =
    piece_meaning p >>= λ c. pieces_meaning ps >>= λ bytes. Some (encode_utf8 c ++ bytes)
