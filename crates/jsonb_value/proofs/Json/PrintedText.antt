-- The printed form of a string is the spelling of pieces that mean it.
use Rattle.std.proofs.lemmas.Grind.{common_steps}
use Rattle.std.proofs.Common.{◌≡◌, ℕ, ◌/◌, ◌%◌, ◌<◌, ◌≤◌, Bool, true, false, cond, inl}
use Rattle.std.proofs.Common.{inr, Some, refl, sym, ap, subst, ◌∙◌, List, [], ◌∷◌, ◌++◌, arith}
use Rattle.std.proofs.Common.{append-nil, eqb-true, flat_map, get_or}
use Rattle.std.specs.Prelude.{◌||◌, ◌&&◌, ◌==◌, nat_lt, map, chars, encode_utf8, encode_utf8_all}
use Rattle.std.specs.List.{All}
use Rattle.std.specs.Str.{IsUtf8}
use Rattle.std.specs.Char.{digit_char, digit_value, is_digit, IsScalar}
use Rattle.std.proofs.Math.Utf8.{scalars}
use Rattle.std.proofs.lemmas.Bool.{lt-ltb, ltb-true, lt-leb, le-leb, ltb-false, cases_Bool}
use Rattle.std.proofs.lemmas.List.Elements.{All-nil, All-cons}
use Rattle.std.proofs.lemmas.Grind.{flat_map-append}
use Rattle.std.proofs.lemmas.Str.{chars-nil, chars-append, chars-IsAscii, chars_past_char}
use Rattle.std.proofs.lemmas.Str.{encode_ascii, encodes-chars, scalars-chars}
use Rattle.std.proofs.lemmas.Str.{digit_value-digit_char, inside_one, IsUtf8-append, IsUtf8-encode}
use Rattle.std.proofs.lemmas.Str.{IsUtf8-from_ascii, IsUtf8-nil}
use Rattle.std.proofs.lemmas.Str.Ascii.{IsAscii-from_all}
use Rattle.jsonb_value.specs.Text.{is_escaped, byte_text}
use Rattle.jsonb_value.specs.Json.Characters.{quote, backslash}
use Rattle.jsonb_value.specs.Json.Bind.{◌>>=◌}
use Rattle.jsonb_value.specs.Json.Piece.{Piece, plain, escape, unit, unit4, unit_value}
use Rattle.jsonb_value.specs.Json.Piece.{unit_character, piece_text}
use Rattle.jsonb_value.specs.Json.Piece.{pieces_text, piece_meaning, pieces_meaning}
use Rattle.jsonb_value.proofs.PayloadLaws.{by_test}
use Rattle.jsonb_value.proofs.Escapes.{is_escaped-ascii, plain_front}
use Rattle.jsonb_value.proofs.Json.Tests.{bool_cases, and_true}

-- ---- bytes that spell characters

pub record Spells (bytes characters : List ℕ) : Type 0 where
  pub utf8 : IsUtf8 bytes
  pub are : chars bytes ≡ characters

pub Spells-append : {a b x y : List ℕ} → Spells a x → Spells b y → Spells (a ++ b) (x ++ y)
Spells-append {a} {b} h k = grind (arith, IsUtf8-append, chars-append)

pub Spells-nil : Spells [] []
Spells-nil = record { utf8 = IsUtf8-nil; are = chars-nil }

abbrev pub all_ascii : List ℕ → Bool
all_ascii [] = true
all_ascii (b ∷ bs) = nat_lt b 128 && all_ascii bs

each_ascii : (bs : List ℕ) → all_ascii bs ≡ true → All (λ b. b < 128) bs
each_ascii [] e = All-nil (λ b. b < 128)
each_ascii (b ∷ bs) e = let parts = and_true _ _ e in All-cons
    (λ b. b < 128) b bs (ltb-true b 128 parts.0) (each_ascii bs parts.1)

-- ASCII spells itself
pub Spells-ascii : (bs : List ℕ) → all_ascii bs ≡ true → Spells bs bs
Spells-ascii bs e = grind (arith, IsAscii-from_all, each_ascii, IsUtf8-from_ascii, chars-IsAscii)

Spells-character : (c : ℕ) → IsScalar c → Spells (encode_utf8 c) (c ∷ [])
Spells-character c is = record {
  utf8 = IsUtf8-encode c is;
  are = chars_past_char (encode_utf8 c) [] c (IsUtf8-encode c is) (sym (append-nil (encode_utf8 c)))
      ∙ ap (λ (l : List ℕ). c ∷ l) chars-nil;
}

-- ---- pieces

-- quote and backslash after a backslash, five control characters by a letter, the others by `u00`
-- and two digits
abbrev pub printed_piece : ℕ → Piece
printed_piece c =
    cond ((c == quote) || (c == backslash)) (escape c)
    (cond (c == 8) (escape 98)
    (cond (c == 9) (escape 116)
    (cond (c == 10) (escape 110) (cond (c == 12) (escape 102) (cond (c == 13) (escape 114)
    (cond (nat_lt c 32) (unit (unit4 48 48 (digit_char (c / 16)) (digit_char (c % 16))))
    (plain c)))))))

abbrev pub printed_text : List ℕ → List Piece
printed_text bytes = map printed_piece (chars bytes)

-- the printed text of a character below 128, and what its piece means
record Printed (c : ℕ) : Type 0 where
  text : byte_text c ≡ piece_text (printed_piece c)
  ascii : c < 128 → all_ascii (piece_text (printed_piece c)) ≡ true
  means : piece_meaning (printed_piece c) ≡ Some c

hex : (d : ℕ) → d < 16 → (digit_value (digit_char d) ≡ d) × (is_digit (digit_char d) 16 ≡ true)
hex d h = grind (arith, digit_value-digit_char, lt-ltb)

hex_ascii : (d : ℕ) → d < 16 → nat_lt (digit_char d) 128 ≡ true
hex_ascii d h = grind (arith, by_test, lt-ltb)

short_unit : (c : ℕ) → c < 32
    → (unit_value (unit4 48 48 (digit_char (c / 16)) (digit_char (c % 16))) >>= unit_character)
    ≡ Some c
short_unit c h = grind (arith, hex, lt-leb)

at : (d c : ℕ) → (c == d) ≡ true → Printed d → Printed c
at d c e h = grind (arith, eqb-true)

-- the seven characters with an escape of their own
printed_34 : Printed 34
printed_34 = grind arith

printed_92 : Printed 92
printed_92 = grind arith

printed_8 : Printed 8
printed_8 = grind arith

printed_9 : Printed 9
printed_9 = grind arith

printed_10 : Printed 10
printed_10 = grind arith

printed_12 : Printed 12
printed_12 = grind arith

printed_13 : Printed 13
printed_13 = grind arith

record NoLetter (c : ℕ) : Type 0 where
  q : (c == 34) ≡ false
  s : (c == 92) ≡ false
  b : (c == 8) ≡ false
  t : (c == 9) ≡ false
  n : (c == 10) ≡ false
  f : (c == 12) ≡ false
  r : (c == 13) ≡ false

-- the other control characters
printed_control : (c : ℕ) → NoLetter c → nat_lt c 32 ≡ true → Printed c
printed_control c o e = grind (arith, common_steps, ltb-true, hex_ascii, short_unit)

-- all other characters
printed_plain : (c : ℕ) → NoLetter c → nat_lt c 32 ≡ false → Printed c
printed_plain c o e = grind (arith, le-leb, ltb-false, lt-ltb)

printed : (c : ℕ) → Printed c
printed c =
    grind (
      arith,
      common_steps,
      at,
      printed_34,
      printed_92,
      printed_8,
      printed_9,
      printed_10,
      printed_12,
      printed_13,
      printed_control,
      printed_plain,
    )

-- ---- the bytes of a character

-- no byte of a character beyond ASCII is escaped
wide_plain : (c : ℕ) → 128 ≤ c → flat_map byte_text (encode_utf8 c) ≡ encode_utf8 c
wide_plain c wide = plain_front (encode_utf8 c) (λ k below.
    elim (cases_Bool (is_escaped (get_or (encode_utf8 c) k 0))) [
      | inl escaped ↦
          let ascii = is_escaped-ascii (get_or (encode_utf8 c) k 0) escaped in
          let same =
          inside_one c [] (encode_utf8 c) k (sym (append-nil (encode_utf8 c))) below ascii in
          absurd (omega arith)
      | inr stored ↦ stored
    ])

wide_piece : (c : ℕ) → 128 ≤ c → piece_text (printed_piece c) ≡ c ∷ []
wide_piece c wide = grind (arith, eqb-true, ltb-true)

character_spelled : (c : ℕ) → IsScalar c
    → Spells (flat_map byte_text (encode_utf8 c)) (piece_text (printed_piece c))
character_spelled c is =
    elim (bool_cases (nat_lt c 128)) [
      | inl e ↦
          let small = ltb-true c 128 e in
          let p = printed c in
          let bytes : flat_map byte_text (encode_utf8 c) ≡ piece_text (printed_piece c) =
          ap (flat_map byte_text) (encode_ascii c small) ∙ append-nil (byte_text c) ∙ p.text in
          subst (λ x. Spells x (piece_text (printed_piece c))) (sym bytes)
          (Spells-ascii (piece_text (printed_piece c)) (p.ascii small))
      | inr e ↦
          let wide = ltb-false c 128 e in
          subst (Spells (flat_map byte_text (encode_utf8 c))) (sym (wide_piece c wide))
          (subst (λ x. Spells x (c ∷ [])) (sym (wide_plain c wide)) (Spells-character c is))
    ]

characters_spelled : (cs : List ℕ) → scalars cs ≡ true
    → Spells (flat_map byte_text (encode_utf8_all cs)) (pieces_text (map printed_piece cs))
characters_spelled [] e = Spells-nil
characters_spelled (c ∷ cs) e =
    let parts = and_true _ _ e in
    rw (flat_map-append byte_text (encode_utf8 c) (encode_utf8_all cs))
    (Spells-append (character_spelled c parts.0) (characters_spelled cs parts.1))

-- The printed content is the spelling of the pieces.
pub content_spelled : (bytes : List ℕ) → IsUtf8 bytes
    → Spells (flat_map byte_text bytes) (pieces_text (printed_text bytes))
content_spelled bytes utf8 =
    subst (λ x. Spells (flat_map byte_text x) (pieces_text (printed_text bytes)))
    (encodes-chars bytes utf8) (characters_spelled (chars bytes) (scalars-chars bytes utf8))

pieces_mean : (cs : List ℕ) → pieces_meaning (map printed_piece cs) ≡ Some (encode_utf8_all cs)
pieces_mean [] = refl
pieces_mean (c ∷ cs) = grind (arith, common_steps, printed, pieces_mean cs)

-- The pieces mean the string.
pub text_meaning : (bytes : List ℕ) → IsUtf8 bytes
    → pieces_meaning (printed_text bytes) ≡ Some bytes
text_meaning bytes utf8 =
    grind (arith, pieces_mean, encodes-chars)
