-- What is read as a string is spelled that way, and what is spelled as a string is read.
use Rattle.std.proofs.Common.{◌≡◌, ℕ, zero, suc, ◌<◌, true, false, inl, inr, Option, Some, None}
use Rattle.std.proofs.Common.{refl, sym, ap, ◌∙◌, List, [], ◌∷◌, ◌++◌, length, append_assoc}
use Rattle.std.proofs.Common.{append-nil, eqb-true, arith, length-append}
use Rattle.std.specs.Prelude.{◌==◌, encode_utf8}
use Rattle.jsonb_value.specs.Json.Characters.{quote, backslash, letter_u}
use Rattle.jsonb_value.specs.Json.Piece.{Piece, Unit4, unit4, plain, escape, unit, surrogates}
use Rattle.jsonb_value.specs.Json.Piece.{piece_text, pieces_text, unit_text, unit_value}
use Rattle.jsonb_value.specs.Json.Piece.{escape_value, is_high, unit_character, pair_character}
use Rattle.jsonb_value.specs.Json.Piece.{is_plain, piece_meaning, pieces_meaning}
use Rattle.jsonb_value.specs.Reader.Reading.{read_unit, read_second, read_character, read_escape}
use Rattle.jsonb_value.specs.Reader.Reading.{read_piece, read_text}
use Rattle.jsonb_value.proofs.Json.Tests.{bind_then, some_pair, some_same, cond_some}
use Rattle.jsonb_value.proofs.Json.Tests.{and_true, no_error, chosen, by_true}
use Rattle.jsonb_value.proofs.Json.Tests.{bound}

-- four hexadecimal digits at the start
pub record IsUnitFront (s : List ℕ) (value : ℕ) (rest : List ℕ) : Type 0 where
  pub digits : Unit4
  pub is_worth : unit_value digits ≡ Some value
  pub is_spelled : backslash ∷ letter_u ∷ s ≡ unit_text digits ++ rest

unit-found : (s : List ℕ) (value : ℕ) (rest : List ℕ) → read_unit s ≡ Some (value, rest)
    → IsUnitFront s value rest
unit-found [] value rest e = no_error e
unit-found (a ∷ []) value rest e = no_error e
unit-found (a ∷ b ∷ []) value rest e = no_error e
unit-found (a ∷ b ∷ c ∷ []) value rest e = no_error e
unit-found (a ∷ b ∷ c ∷ d ∷ s) value rest e =
    bind_then (unit_value (unit4 a b c d)) _ _ e (λ u is end.
    let same = some_pair u value s rest end in
    record {
      digits = unit4 a b c d;
      is_worth = is ∙ ap Some same.0;
      is_spelled = ap (λ t. backslash ∷ letter_u ∷ a ∷ b ∷ c ∷ d ∷ t) same.1;
    })

second-found : (s : List ℕ) (value : ℕ) (rest : List ℕ) → read_second s ≡ Some (value, rest)
    → (low : Unit4) × (unit_value low ≡ Some value) × (s ≡ unit_text low ++ rest)
second-found [] value rest e = no_error e
second-found (b ∷ []) value rest e = no_error e
second-found (b ∷ u ∷ s) value rest e =
    let opened = cond_some _ _ _ e in
    let marks = and_true _ _ opened.0 in
    let low = unit-found s value rest opened.1 in (
      low.digits,
      low.is_worth,
      ap (λ x. x ∷ u ∷ s) (eqb-true b backslash marks.0) ∙ ap
          (λ x. backslash ∷ x ∷ s) (eqb-true u letter_u marks.1) ∙ low.is_spelled,
    )

-- a piece at the start
pub record IsPieceFront (s : List ℕ) (character : ℕ) (rest : List ℕ) : Type 0 where
  pub piece : Piece
  pub is_meant : piece_meaning piece ≡ Some character
  pub is_spelled : s ≡ piece_text piece ++ rest

character-found : (s r : List ℕ) (u : ℕ) (c : ℕ) (rest : List ℕ) → IsUnitFront s u r
    → read_character u r ≡ Some (c, rest) → IsPieceFront (backslash ∷ letter_u ∷ s) c rest
character-found s r u c rest first e = elim (chosen (is_high u) _ _ _ e) [
  | inl high ↦
      bind_then (read_second r) _ _ high.1 (λ low is_low more.
      bind_then (pair_character u low.0) _ _ more (λ x is_pair end.
      let same = some_pair x c low.1 rest end in
      let second = second-found r low.0 low.1 is_low in
      record {
        piece = surrogates first.digits second.0;
        is_meant = rw (first.is_worth, second.1) (is_pair ∙ ap Some same.0);
        is_spelled = first.is_spelled ∙ ap
            (λ t. unit_text first.digits ++ t) (second.2 ∙ ap (λ t. unit_text second.0 ++ t) same.1)
            ∙ simp append_assoc;
      }))
  | inr other ↦
      bind_then (unit_character u) _ _ other.1 (λ x is_one end.
      let same = some_pair x c r rest end in
      record {
        piece = unit first.digits;
        is_meant = rw first.is_worth (is_one ∙ ap Some same.0);
        is_spelled = first.is_spelled ∙ ap (λ t. unit_text first.digits ++ t) same.1;
      })
]

escape-found : (s : List ℕ) (c : ℕ) (rest : List ℕ) → read_escape s ≡ Some (c, rest)
    → IsPieceFront (backslash ∷ s) c rest
escape-found [] c rest e = no_error e
escape-found (x ∷ s) c rest e = elim (chosen (x == letter_u) _ _ _ e) [
  | inl is ↦
      bind_then (read_unit s) _ _ is.1 (λ u is_unit more.
      let front = character-found s u.1 u.0 c rest (unit-found s u.0 u.1 is_unit) more in
      record {
        piece = front.piece;
        is_meant = front.is_meant;
        is_spelled = ap (λ y. backslash ∷ y ∷ s) (eqb-true x letter_u is.0) ∙ front.is_spelled;
      })
  | inr other ↦
      bind_then (escape_value x) _ _ other.1 (λ y is_escape end.
      let same = some_pair y c s rest end in
      record {
        piece = escape x;
        is_meant = is_escape ∙ ap Some same.0;
        is_spelled = ap
            (λ t. backslash ∷ x ∷ t) same.1;
      })
]

pub piece-found : (s : List ℕ) (c : ℕ) (rest : List ℕ) → read_piece s ≡ Some (c, rest)
    → IsPieceFront s c rest
piece-found [] c rest e = no_error e
piece-found (x ∷ s) c rest e = elim (chosen (x == backslash) _ _ _ e) [
  | inl is ↦
      let front = escape-found s c rest is.1 in
      record {
        piece = front.piece;
        is_meant = front.is_meant;
        is_spelled = ap
            (λ y. y ∷ s) (eqb-true x backslash is.0) ∙ front.is_spelled;
      }
  | inr other ↦
      let stored = cond_some _ _ _ other.1 in
      let same = some_pair x c s rest stored.1 in
      record {
        piece = plain x;
        is_meant = by_true _ _ _ _ stored.0
            (ap Some same.0);
        is_spelled = ap (λ t. x ∷ t) same.1;
      }
]

-- pieces and the closing quote at the start; the pieces' bytes are appended to `front`
pub record IsTextFront (front s bytes rest : List ℕ) : Type 0 where
  pub pieces : List Piece
  pub own : List ℕ
  pub is_meant : pieces_meaning pieces ≡ Some own
  pub is_joined : front ++ own ≡ bytes
  pub is_spelled : s ≡ pieces_text pieces ++ quote ∷ rest

pub text-found : (n : ℕ) (front s bytes rest : List ℕ) → read_text n front s ≡ Some (bytes, rest)
    → IsTextFront front s bytes rest
unfolding read_text
text-found zero front s bytes rest e = no_error e
text-found (suc n) front [] bytes rest e = no_error e
text-found (suc n) front (x ∷ s) bytes rest e = elim (chosen (x == quote) _ _ _ e) [
  | inl is ↦
      let same = some_pair front bytes s rest is.1 in
      record {
        pieces = [];
        own = [];
        is_meant = refl;
        is_joined = append-nil front
            ∙ same.0;
        is_spelled = ap (λ y. y ∷ s) (eqb-true x quote is.0) ∙ ap
            (λ t. quote ∷ t) same.1;
      }
  | inr other ↦
      bind_then (read_piece (x ∷ s)) _ _ other.1 (λ p is_piece more.
      let first = piece-found (x ∷ s) p.0 p.1 is_piece in
      let others = text-found n (front ++ encode_utf8 p.0) p.1 bytes rest more in
      record {
        pieces = first.piece ∷ others.pieces;
        own = encode_utf8 p.0 ++ others.own;
        is_meant = rw (first.is_meant, others.is_meant) refl;
        is_joined = sym (append_assoc front (encode_utf8 p.0) others.own) ∙ others.is_joined;
        is_spelled = first.is_spelled ∙ ap (λ t. piece_text first.piece ++ t) others.is_spelled
            ∙ simp append_assoc;
      })
]

-- ---- the converse

-- a character for which f has a result differs from one for which it has none
pub passes_no : {A : Type 0} (f : ℕ → Option A) (c k : ℕ) (y : A) → f c ≡ Some y → f k ≡ None
    → (c == k) ≡ false
passes_no f c k y is none = grind (arith, eqb-true)

unit-again : (u : Unit4) (value : ℕ) (rest : List ℕ) → unit_value u ≡ Some value → (s : List ℕ)
    × (unit_text u ++ rest ≡ backslash ∷ letter_u ∷ s) × (read_unit s ≡ Some (value, rest))
unit-again (unit4 a b c d) value rest is = (a ∷ b ∷ c ∷ d ∷ rest, refl, rw is refl)

plain_is_other : (c : ℕ) → is_plain c ≡ true → ((c == quote) ≡ false) × ((c == backslash) ≡ false)
plain_is_other c e = grind arith

one_unit : (u c : ℕ) → unit_character u ≡ Some c → is_high u ≡ false
one_unit u c e = grind arith

high_first : (h l c : ℕ) → pair_character h l ≡ Some c → is_high h ≡ true
high_first h l c e = grind arith

-- a piece that means a character does not begin with the quote, and is read
pub record IsRead (s : List ℕ) (c : ℕ) (rest : List ℕ) : Type 0 where
  pub first : ℕ
  pub others : List ℕ
  pub is_split : s ≡ first ∷ others
  pub is_no_quote : (first == quote) ≡ false
  pub is_read : read_piece s ≡ Some (c, rest)

pub piece-again : (p : Piece) (c : ℕ) (rest : List ℕ) → piece_meaning p ≡ Some c
    → IsRead (piece_text p ++ rest) c rest
piece-again (plain x) c rest e = grind (arith, plain_is_other)
piece-again (escape x) c rest e = grind (arith, passes_no)
piece-again (unit u) c rest e = grind (arith, unit-again, one_unit)
piece-again (surrogates high low) c rest e =
    bind_then (unit_value high) _ _ e (λ h of_high more.
    bind_then (unit_value low) _ _ more (λ l of_low is_pair.
    let opened = unit-again high h (unit_text low ++ rest) of_high in
    let second = unit-again low l rest of_low in
    let split : unit_text high ++ unit_text low ++ rest ≡ backslash ∷ letter_u ∷ opened.0 =
    simp append_assoc opened.1 in
    let begins : is_high h ≡ true = high_first h l c is_pair in
    let rest_read : read_second (unit_text low ++ rest) ≡ Some (l, rest) =
    ap read_second second.1 ∙ second.2 in
    let read : read_piece (backslash ∷ letter_u ∷ opened.0)
    ≡ Some (c, rest) = bound _ _ _ _ opened.2
    (by_true _ _ _ _ begins (bound _ _ _ _ rest_read (bound _ _ _ _ is_pair refl))) in
    record {
      first = backslash;
      others = letter_u
          ∷ opened.0;
      is_split = split;
      is_no_quote = refl;
      is_read = ap read_piece split ∙ read;
    }))

text_step : (n : ℕ) (front s bytes rest : List ℕ) (c : ℕ) (r : List ℕ) → IsRead s c r
    → read_text n (front ++ encode_utf8 c) r ≡ Some (bytes, rest)
    → read_text (suc n) front s ≡ Some (bytes, rest)
unfolding read_text
text_step n front s bytes rest c r is more = grind arith

pub piece_length : (p : Piece) → 0 < length (piece_text p)
piece_length p = grind arith

pub text-again : (ps : List Piece) (n : ℕ) (front rest own : List ℕ) → pieces_meaning ps ≡ Some own
    → length (pieces_text ps ++ quote ∷ rest) < n
    → read_text n front (pieces_text ps ++ quote ∷ rest) ≡ Some (front ++ own, rest)
unfolding read_text
text-again ps zero front rest own e h = absurd (omega arith)
text-again [] (suc n) front rest own e h = grind (arith, append-nil)
text-again (p ∷ ps) (suc n) front rest own e h =
    bind_then (piece_meaning p) _ _ e (λ c is_character more.
    bind_then (pieces_meaning ps) _ _ more (λ bytes are_others end.
    let joined : encode_utf8 c ++ bytes ≡ own = some_same _ _ end in
    let tail = pieces_text ps ++ quote ∷ rest in
    let first = piece-again p c tail is_character in
    let split : (piece_text p ++ pieces_text ps) ++ quote ∷ rest ≡ piece_text p ++ tail =
    append_assoc (piece_text p) (pieces_text ps) (quote ∷ rest) in
    let shorter : length tail < n =
    omega (arith, ap length split, length-append (piece_text p) tail, piece_length p) in
    let others = text-again ps n (front ++ encode_utf8 c) rest bytes are_others shorter in
    let regrouped : (front ++ encode_utf8 c) ++ bytes ≡ front ++ own =
    append_assoc front (encode_utf8 c) bytes ∙ ap (λ t. front ++ t) joined in
    ap (read_text (suc n) front) split
    ∙ text_step n front (piece_text p ++ tail) _ rest c tail first
    (others ∙ ap (λ t. Some (t, rest)) regrouped)))
