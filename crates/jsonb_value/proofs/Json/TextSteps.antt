-- Steps of reading a string.
use Rattle.std.proofs.Common.{◌≡◌, ℕ, zero, suc, ◌+◌, ◌*◌, ◌<◌, true, false, refl, sym, ap, subst}
use Rattle.std.proofs.Common.{take, drop, ◌∙◌, List, [], ◌∷◌, ◌++◌, length, length-append}
use Rattle.std.proofs.Common.{append_assoc, append-nil, arith, Some, None, inl, inr, eqb-true}
use Rattle.std.specs.Prelude.{◌≢◌, ◌==◌, ◌≤◌, encode_utf8, encode_utf8_all, chars, IsUtf8}
use Rattle.std.specs.List.{list_all, prefix_len}
use Rattle.std.specs.Char.{digit_value, is_digit}
use Rattle.std.proofs.lemmas.Bool.{lt-ltb, le-leb, ltb-true, ltb-false}
use Rattle.std.proofs.lemmas.Str.{encode_ascii, encodes-chars, chars-append, IsUtf8-take}
use Rattle.std.proofs.lemmas.Str.{IsCharBoundary-before_ascii, IsCharBoundary-end}
use Rattle.std.proofs.lemmas.List.{take-append-drop}
use Rattle.std.specs.Str.{IsCharBoundary}
use Rattle.std.proofs.lemmas.List.Sums.{prefix_len_stops, prefix_len-le-length}
use Rattle.std.proofs.lemmas.List.Folds.{list_all-append}
use Rattle.jsonb_value.specs.Json.Characters.{quote}
use Rattle.jsonb_value.specs.Json.Piece.{unit4, unit_value, is_plain}
use Rattle.jsonb_value.specs.Reader.Reading.{read_piece, read_text}
use Rattle.jsonb_value.proofs.Json.Tests.{bool_cases, by_false, and_true, and_both}
use Rattle.jsonb_value.proofs.Json.Tests.{bound}
use Rattle.jsonb_value.proofs.Json.Shorter.{piece_shorter}

some_digit : (c : ℕ) → digit_value c < 16 → is_digit c 16 ≡ true
some_digit c is = lt-ltb (digit_value c) 16 is

pub all_digits_give : (a b c d : ℕ) → digit_value a < 16 → digit_value b < 16 → digit_value c < 16
    → digit_value d < 16
    → unit_value (unit4 a b c d)
    ≡ Some (digit_value a * 4096 + digit_value b * 256 + digit_value c * 16 + digit_value d)
all_digits_give a b c d first second third fourth = grind (arith, some_digit)

no_test : (c k : ℕ) → c ≢ k → (c == k) ≡ false
no_test c k other = grind (arith, eqb-true)

no_quote : (c : ℕ) → c ≢ quote → (c == quote) ≡ false
no_quote c other = no_test c quote other

pub text_ends : (m : ℕ) (front s : List ℕ) → s ≡ [] → read_text m front s ≡ None
unfolding read_text
text_ends m front s e = grind arith

pub text_closes : (m : ℕ) (front s after : List ℕ) → length s < m → s ≡ quote ∷ after
    → read_text m front s ≡ Some (front, after)
unfolding read_text
text_closes m front s after h e = grind arith

pub text_fails : (m : ℕ) (front s after : List ℕ) (c : ℕ) → length s < m → s ≡ c ∷ after → c ≢ quote
    → read_piece s ≡ None → read_text m front s ≡ None
unfolding read_text
text_fails m front s after c h e other none = grind (arith, no_quote)

-- reading continues after a piece
pub record GoesOn (m : ℕ) (front s new rest : List ℕ) : Type 0 where
  pub turns : ℕ
  pub enough : length rest < turns
  pub same : read_text m front s ≡ read_text turns new rest

goes_on_by : (m : ℕ) (front s after : List ℕ) (c x : ℕ) (rest : List ℕ) → length s < m
    → s ≡ c ∷ after → (c == quote) ≡ false → read_piece s ≡ Some (x, rest)
    → GoesOn m front s (front ++ encode_utf8 x) rest
unfolding read_text
goes_on_by zero front s after c x rest h e other is = absurd (omega arith)
goes_on_by (suc m) front s after c x rest h e other is =
    let first : read_piece (c ∷ after) ≡ Some (x, rest) = ap read_piece (sym e) ∙ is in
    let shorter = piece_shorter s x rest is in
    record {
      turns = m;
      enough = omega arith;
      same = ap (read_text (suc m) front) e ∙ by_false _ _ _ _ other (bound _ _ _ _ first refl);
    }

-- one more piece
goes_on_past : (m : ℕ) (front s middle rest after : List ℕ) (c x : ℕ) (last : List ℕ)
    → GoesOn m front s middle rest → rest ≡ c ∷ after → (c == quote) ≡ false
    → read_piece rest ≡ Some (x, last)
    → GoesOn m front s (middle ++ encode_utf8 x) last
goes_on_past m front s middle rest after c x last g e other is =
    let more = goes_on_by g.turns middle rest after c x last g.enough e other is in
    record { turns = more.turns; enough = more.enough; same = g.same ∙ more.same }

pub goes_on_past_piece : (m : ℕ) (front s middle rest after : List ℕ) (c x : ℕ) (last : List ℕ)
    → GoesOn m front s middle rest → rest ≡ c ∷ after → c ≢ quote → Some (x, last) ≡ read_piece rest
    → GoesOn m front s (middle ++ encode_utf8 x) last
goes_on_past_piece m front s middle rest after c x last g e other is =
    goes_on_past m front s middle rest after c x last g e (no_quote c other) (sym is)

read_piece-plain : (c : ℕ) (s : List ℕ) → is_plain c ≡ true → read_piece (c ∷ s) ≡ Some (c, s)
read_piece-plain c s e = grind arith

plain_is_no_quote : (c : ℕ) → is_plain c ≡ true → (c == quote) ≡ false
plain_is_no_quote c e = grind arith

-- more unescaped characters
goes_on_past_all : (ps : List ℕ) (m : ℕ) (front s middle rest last : List ℕ)
    → GoesOn m front s middle rest → rest ≡ ps ++ last → list_all is_plain ps ≡ true
    → GoesOn m front s (middle ++ encode_utf8_all ps) last
goes_on_past_all [] m front s middle rest last g e all = grind (arith, append-nil)
goes_on_past_all (p ∷ ps) m front s middle rest last g e all =
    let parts = and_true _ _ all in
    let read : read_piece rest ≡ Some (p, ps ++ last) =
    ap read_piece e ∙ read_piece-plain p (ps ++ last) parts.0 in
    let one = goes_on_past m front s middle rest (ps ++ last) p p (ps ++ last) g e
    (plain_is_no_quote p parts.0) read in
    let more = goes_on_past_all ps m front s (middle ++ encode_utf8 p)
    (ps ++ last) last one refl parts.1 in
    record {
      turns = more.turns;
      enough = more.enough;
      same = more.same ∙ ap
          (λ q. read_text more.turns q last)
          (append_assoc middle (encode_utf8 p) (encode_utf8_all ps));
    }

-- more unescaped characters, given by their bytes
pub goes_on_past_plain : (m : ℕ) (front s middle rest last ps bytes : List ℕ)
    → GoesOn m front s middle rest → rest ≡ ps ++ last → list_all is_plain ps ≡ true
    → encode_utf8_all ps ≡ bytes
    → GoesOn m front s (middle ++ bytes) last
goes_on_past_plain m front s middle rest last ps bytes g e all same =
    grind (arith, goes_on_past_all)

pub goes_on_as : (m : ℕ) (front s new rest own : List ℕ) → GoesOn m front s new rest → own ≡ new
    → GoesOn m front s own rest
goes_on_as m front s new rest own g e = grind arith

-- from the opening quote of a string to the end of its leading unescaped characters
pub goes_on_from_start : (n : ℕ) (s last ps bytes : List ℕ) → length s < n → s ≡ ps ++ last
    → list_all is_plain ps ≡ true → encode_utf8_all ps ≡ bytes → GoesOn n [] s bytes last
goes_on_from_start n s last ps bytes h e all same =
    goes_on_past_plain n [] s [] s last ps bytes
    (record { turns = n; enough = h; same = refl }) e all same

-- ---- unescaped bytes are unescaped characters

large_is_plain : (c : ℕ) → 128 ≤ c → is_plain c ≡ true
large_is_plain c h = grind (arith, le-leb, no_test)

small_if_not_plain : (c : ℕ) → is_plain c ≡ false → c < 128
small_if_not_plain c e = grind (arith, ltb-true, large_is_plain, ltb-false)

plain-encoded : (c : ℕ) → list_all is_plain (encode_utf8 c) ≡ true → is_plain c ≡ true
plain-encoded c e = grind (arith, encode_ascii, ltb-true, large_is_plain, ltb-false)

plain-characters : (cs : List ℕ) → list_all is_plain (encode_utf8_all cs) ≡ true
    → list_all is_plain cs ≡ true
plain-characters [] e = refl
plain-characters (c ∷ cs) e =
    let parts =
    and_true _ _ (sym (list_all-append is_plain (encode_utf8 c) (encode_utf8_all cs)) ∙ e) in
    and_both _ _ (plain-encoded c parts.0) (plain-characters cs parts.1)

pub plain-chars : (bytes : List ℕ) → IsUtf8 bytes → list_all is_plain bytes ≡ true
    → list_all is_plain (chars bytes) ≡ true
plain-chars bytes utf8 e = grind (arith, plain-characters, encodes-chars)

-- ---- where the leading unescaped characters end

plain_boundary : (bytes : List ℕ) → IsCharBoundary bytes (prefix_len is_plain bytes)
plain_boundary bytes =
    grind (
      arith,
      prefix_len_stops,
      ltb-true,
      IsCharBoundary-before_ascii,
      small_if_not_plain,
      ltb-false,
      prefix_len-le-length,
      IsCharBoundary-end,
    )

plain_take : (bytes : List ℕ) (n : ℕ) → n ≤ prefix_len is_plain bytes
    → list_all is_plain (take n bytes) ≡ true
plain_take bytes zero h = refl
plain_take [] (suc n) h = refl
plain_take (b ∷ bytes) (suc n) h = elim (bool_cases (is_plain b)) [
  | inl e ↦ let more : suc n ≤ 1 + prefix_len is_plain bytes =
      rw e at h in and_both _ _ e (plain_take bytes n (omega arith))
  | inr e ↦ let none : suc n ≤ 0 = rw e at h in absurd (omega arith)
]

pub cut_boundary : (bytes : List ℕ) (n : ℕ) → n ≡ prefix_len is_plain bytes → IsCharBoundary bytes n
cut_boundary bytes n e = grind (arith, plain_boundary)

-- the bytes before that position
pub record PlainFront (bytes front rest : List ℕ) : Type 0 where
  pub is_plain_all : list_all is_plain (chars front) ≡ true
  pub is_whole : chars bytes ≡ chars front ++ chars rest
  pub is_encoded : encode_utf8_all (chars front) ≡ front

pub plain_front : (bytes front rest : List ℕ) (n : ℕ) → IsUtf8 bytes → n ≡ prefix_len is_plain bytes
    → front ≡ take n bytes → rest ≡ drop n bytes → PlainFront bytes front rest
plain_front bytes front rest n utf8 e is_front is_rest =
    let front_utf8 : IsUtf8 front =
    subst IsUtf8 (sym is_front) (IsUtf8-take bytes n utf8 (cut_boundary bytes n e)) in
    let within : n ≤ prefix_len is_plain bytes = omega arith in
    let plain : list_all is_plain front ≡ true =
    ap (list_all is_plain) is_front ∙ plain_take bytes n within in
    let joined : bytes ≡ front ++ rest = sym (take-append-drop n bytes) ∙ ap
    (λ q. q ++ drop n bytes) (sym is_front) ∙ ap (λ q. front ++ q) (sym is_rest) in
    record {
      is_plain_all = plain-chars front front_utf8 plain;
      is_whole = ap chars joined ∙ chars-append front rest front_utf8;
      is_encoded = encodes-chars front front_utf8;
    }

-- the text after the unescaped characters that follow a piece is shorter
pub plain_shorter : (s after ps last : List ℕ) (x : ℕ) → Some (x, after) ≡ read_piece s
    → after ≡ ps ++ last → length last < length s
plain_shorter s after ps last x is e =
    let shorter = piece_shorter s x after (sym is) in
    omega (arith, ap length e, length-append ps last)
