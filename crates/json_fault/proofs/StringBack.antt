-- What completes a string after a character completes it before, with the character in front.
use Rattle.std.proofs.Common.{◌≡◌, ℕ, ◌+◌, ◌-◌, ◌*◌, ◌<◌, ◌≤◌, ◌⊎◌, inl, inr, true, cond}
use Rattle.std.proofs.Common.{refl, sym, ap, ◌∙◌, subst, arith, List, [], ◌∷◌, ◌++◌, append_assoc}
use Rattle.std.proofs.Common.{Some, None, eqb-true}
use Rattle.std.specs.Prelude.{◌&&◌, ◌==◌, nat_lt, nat_le, encode_utf8}
use Rattle.std.specs.Char.{digit_value}
use Rattle.std.proofs.lemmas.Bool.Decides.{nat_tests}
use Rattle.jsonb_value.specs.Json.Characters.{quote, backslash, letter_u}
use Rattle.jsonb_value.specs.Json.Piece.{Piece, unit4, plain, escape, unit, surrogates, piece_text}
use Rattle.jsonb_value.specs.Json.Piece.{piece_meaning, unit_value, unit_character, pair_character}
use Rattle.jsonb_value.specs.Json.Piece.{is_high, is_low, escape_value}
use Rattle.jsonb_value.proofs.Json.Tests.{and_true, and_both, by_true, bound, cond_some, chosen}
use Rattle.jsonb_value.proofs.Json.Tests.{some_same}
use Rattle.json_fault.specs.declared.string.Place.{Place}
use Rattle.json_fault.specs.declared.string.Place.TheVariants.{Inside, Escaped, Four, ThreeOfD}
use Rattle.json_fault.specs.declared.string.Place.TheVariants.{Three, Two, One, HighTwo, HighOne}
use Rattle.json_fault.specs.declared.string.Place.TheVariants.{Low, LowLetter, LowUnit, LowOfD}
use Rattle.json_fault.specs.Scan.{after_digit, past_mark, string_continued}
use Rattle.json_fault.proofs.Conditions.{less_from, less_test, most_from, is_some_found}
use Rattle.json_fault.proofs.Conditions.{either_found}
use Rattle.json_fault.proofs.Endings.{StringEnd, Digit, Mark, Letter, ThreeEnd}
use Rattle.json_fault.proofs.Endings.{HighTwoEnd, ThreeOfDEnd, FourEnd, EscapedEnd, PlaceEnd}

-- ---- the meaning of units

abbrev pub unit_number : ℕ → ℕ → ℕ → ℕ → ℕ
unit_number a b c d = a * 4096 + b * 256 + c * 16 + d

pub unit_is : (a b c d : ℕ) → digit_value a < 16 → digit_value b < 16 → digit_value c < 16
    → digit_value d < 16 → unit_value (unit4 a b c d)
    ≡ Some (unit_number (digit_value a) (digit_value b) (digit_value c) (digit_value d))
unit_is a b c d ha hb hc hd =
    by_true _ _ _ _ (and_both _ _ (and_both _ _ (and_both _ _ (less_test _ _ ha) (less_test _ _ hb))
    (less_test _ _ hc)) (less_test _ _ hd)) refl

character_is : (v : ℕ) → (v < 0xd800) ⊎ (0xe000 ≤ v) → unit_character v ≡ Some v
character_is v h = grind (arith, nat_tests)

high_is : (v : ℕ) → 0xd800 ≤ v → v < 0xdc00 → is_high v ≡ true
high_is v low high = grind (arith, nat_tests)

low_is : (v : ℕ) → 0xdc00 ≤ v → v < 0xe000 → is_low v ≡ true
low_is v low high = grind (arith, nat_tests)

pair_is : (h l : ℕ) → is_high h ≡ true → is_low l ≡ true
    → pair_character h l ≡ Some (0x10000 + (h - 0xd800) * 1024 + (l - 0xdc00))
pair_is h l high low = by_true _ _ _ _ (and_both _ _ high low) refl

-- ---- pieces at the front

pub piece_first : (P : List ℕ → Type 0) (p : Piece) (c : ℕ) (rest : List ℕ)
    → piece_meaning p ≡ Some c → StringEnd P rest → StringEnd P (piece_text p ++ rest)
piece_first P p c rest e end = record {
  pieces = p ∷ end.pieces;
  bytes = encode_utf8 c ++ end.bytes;
  is_meant = grind arith;
  rest = end.rest;
  is_spelled = grind (arith, append_assoc);
  ends = end.ends;
}

unit_first : (P : List ℕ → Type 0) (a b c d : ℕ) (rest : List ℕ) → digit_value a < 16
    → digit_value b < 16 → digit_value c < 16 → digit_value d < 16
    → (unit_number (digit_value a) (digit_value b) (digit_value c) (digit_value d) < 0xd800)
    ⊎ (0xe000 ≤ unit_number (digit_value a) (digit_value b) (digit_value c) (digit_value d))
    → StringEnd P rest → StringEnd P (backslash ∷ letter_u ∷ a ∷ b ∷ c ∷ d ∷ rest)
unit_first P a b c d rest ha hb hc hd h end =
    let v = unit_number (digit_value a) (digit_value b) (digit_value c) (digit_value d) in
    piece_first P (unit (unit4 a b c d)) v rest
    (bound _ _ _ _ (unit_is a b c d ha hb hc hd) (character_is v h)) end

below : (a b c d : ℕ) → a < 13 → b < 16 → c < 16 → d < 16 → unit_number a b c d < 0xd800
below a b c d ha hb hc hd = omega arith

above : (a b c d : ℕ) → 14 ≤ a → 0xe000 ≤ unit_number a b c d
above a b c d ha = omega arith

before : (a b c d : ℕ) → a < 14 → b < 8 → c < 16 → d < 16 → unit_number a b c d < 0xd800
before a b c d ha hb hc hd = omega arith

from_high : (a b c d : ℕ) → 13 ≤ a → 8 ≤ b → 0xd800 ≤ unit_number a b c d
from_high a b c d ha hb = omega arith

to_high : (a b c d : ℕ) → a < 14 → b < 12 → c < 16 → d < 16 → unit_number a b c d < 0xdc00
to_high a b c d ha hb hc hd = omega arith

from_low : (a b c d : ℕ) → 13 ≤ a → 12 ≤ b → 0xdc00 ≤ unit_number a b c d
from_low a b c d ha hb = omega arith

to_low : (a b c d : ℕ) → a < 14 → b < 16 → c < 16 → d < 16 → unit_number a b c d < 0xe000
to_low a b c d ha hb hc hd = omega arith

high_pair : (P : List ℕ → Type 0) (a b c d s t x y : ℕ) (rest : List ℕ) → 13 ≤ digit_value a
    → digit_value a < 14 → 8 ≤ digit_value b → digit_value b < 12 → digit_value c < 16
    → digit_value d < 16 → 13 ≤ digit_value s → digit_value s < 14 → 12 ≤ digit_value t
    → digit_value t < 16 → digit_value x < 16 → digit_value y < 16 → StringEnd P rest
    → StringEnd P (backslash ∷ letter_u ∷ a ∷ b ∷ c ∷ d ∷ backslash ∷ letter_u ∷ s ∷ t ∷ x ∷ y
    ∷ rest)
high_pair P a b c d s t x y rest la ha lb hb hc hd ls hs lt ht hx hy end =
    let wide : (n k : ℕ) → n < k → k ≤ 16 → n < 16 = λ n k h g. omega arith in
    let first = unit_number (digit_value a) (digit_value b) (digit_value c) (digit_value d) in
    let second = unit_number (digit_value s) (digit_value t) (digit_value x) (digit_value y) in
    let high = unit_is a b c d (wide _ 14 ha (omega arith)) (wide _ 12 hb (omega arith)) hc hd in
    let low = unit_is s t x y (wide _ 14 hs (omega arith)) ht hx hy in
    let is_h = high_is first (from_high _ _ (digit_value c) (digit_value d) la lb)
    (to_high _ _ _ _ ha hb hc hd) in
    let is_l = low_is second (from_low _ _ (digit_value x) (digit_value y) ls lt)
    (to_low _ _ _ _ hs ht hx hy) in
    piece_first P (surrogates (unit4 a b c d) (unit4 s t x y)) _ rest
    (bound _ _ _ _ high (bound _ _ _ _ low (pair_is first second is_h is_l))) end

-- ---- escapes

-- this digit at the front
pub digit_first : (Q : List ℕ → Type 0) (c low high : ℕ) (w : List ℕ) → low ≤ digit_value c
    → digit_value c < high → Q w → Digit low high Q (c ∷ w)
digit_first Q c low high w is_low is_high end = record {
  digit = c;
  is_low = is_low;
  is_high = is_high;
  rest = w;
  is_spelled = refl;
  ends = end;
}

module _ (P : List ℕ → Type 0) where
  abbrev Q : List ℕ → Type 0
  Q = StringEnd P

  letter_back : (w : List ℕ) → Letter Q w → StringEnd P (backslash ∷ w)
  letter_back w l =
      rw l.is_spelled (piece_first P (escape l.letter) l.character l.rest l.is_meant l.ends)

  three_back : (a : ℕ) (w : List ℕ) → (digit_value a < 13) ⊎ ((14 ≤ digit_value a)
      × (digit_value a < 16)) → ThreeEnd Q w → StringEnd P (backslash ∷ letter_u ∷ a ∷ w)
  three_back a w h three =
      let two = three.ends in
      let one = two.ends in
      let is = three.is_spelled ∙ ap (λ r. three.digit ∷ r)
      (two.is_spelled ∙ ap (λ r. two.digit ∷ r) one.is_spelled) in
      let b = three.is_high in
      let c = two.is_high in
      let d = one.is_high in
      rw is (elim h [
        | inl small ↦ unit_first P a three.digit two.digit one.digit one.rest
            (let wide : (n : ℕ) → n < 13 → n < 16 = λ n g. omega arith in wide _ small) b c d
            (inl (below _ _ _ _ small b c d)) one.ends
        | inr large ↦ unit_first P a three.digit two.digit one.digit one.rest large.1 b c d
            (inr (above _ (digit_value three.digit) (digit_value two.digit)
            (digit_value one.digit) large.0)) one.ends
      ])

  low_back : (a b : ℕ) (w : List ℕ) → 13 ≤ digit_value a → digit_value a < 14
      → 8 ≤ digit_value b → digit_value b < 12 → HighTwoEnd Q w
      → StringEnd P (backslash ∷ letter_u ∷ a ∷ b ∷ w)
  low_back a b w la ha lb hb two =
      let one = two.ends in
      let mark = one.ends in
      let letter = mark.ends in
      let s = letter.ends in
      let t = s.ends in
      let x = t.ends in
      let y = x.ends in
      let is =
      two.is_spelled ∙ ap (λ r. two.digit ∷ r)
      (one.is_spelled ∙ ap (λ r. one.digit ∷ r)
      (mark.is_spelled ∙ ap (λ r. backslash ∷ r)
      (letter.is_spelled ∙ ap (λ r. letter_u ∷ r)
      (s.is_spelled ∙ ap (λ r. s.digit ∷ r)
      (t.is_spelled ∙ ap (λ r. t.digit ∷ r)
      (x.is_spelled ∙ ap (λ r. x.digit ∷ r) y.is_spelled)))))) in
      rw is (high_pair P a b two.digit one.digit s.digit t.digit x.digit y.digit y.rest la ha lb hb
      two.is_high one.is_high s.is_low s.is_high t.is_low t.is_high x.is_high y.is_high y.ends)

  of_d_back : (a : ℕ) (w : List ℕ) → 13 ≤ digit_value a → digit_value a < 14 → ThreeOfDEnd Q w
      → StringEnd P (backslash ∷ letter_u ∷ a ∷ w)
  of_d_back a w la ha three = elim three [
    | inl b ↦
        let two = b.ends in
        let one = two.ends in
        let is = b.is_spelled ∙ ap (λ r. b.digit ∷ r)
        (two.is_spelled ∙ ap (λ r. two.digit ∷ r) one.is_spelled) in
        let wide : (n k : ℕ) → n < k → k ≤ 16 → n < 16 = λ n k h g. omega arith in
        rw is (unit_first P a b.digit two.digit one.digit one.rest (wide _ 14 ha (omega arith))
        (wide _ 8 b.is_high (omega arith)) two.is_high one.is_high
        (inl (before _ _ _ _ ha b.is_high two.is_high one.is_high)) one.ends)
    | inr b ↦ rw b.is_spelled (low_back a b.digit b.rest la ha b.is_low b.is_high b.ends)
  ]

  four_back : (w : List ℕ) → FourEnd Q w → StringEnd P (backslash ∷ letter_u ∷ w)
  four_back w four = elim four [
    | inl d ↦ rw d.is_spelled (of_d_back d.digit d.rest d.is_low d.is_high d.ends)
    | inr other ↦ elim other [
      | inl small ↦
          rw small.is_spelled (three_back small.digit small.rest (inl small.is_high) small.ends)
      | inr large ↦
          rw large.is_spelled
          (three_back large.digit large.rest (inr (large.is_low, large.is_high)) large.ends)
    ]
  ]

  pub escape_back : (w : List ℕ) → EscapedEnd Q w → StringEnd P (backslash ∷ w)
  escape_back w end = elim end [
    | inl l ↦ letter_back w l
    | inr u ↦ rw u.is_spelled (four_back u.rest u.ends)
  ]

  -- ---- places

  place_known : (p q : Place) (w : List ℕ) → Some p ≡ Some q → PlaceEnd q P w → PlaceEnd p P w
  place_known p q w e end = subst (λ (x : Place). PlaceEnd x P w) (sym (some_same p q e)) end

  digit_known : (p q : Place) (c low high : ℕ) (w : List ℕ) → after_digit c low high p ≡ Some q
      → PlaceEnd q P w → (low ≤ digit_value c) × (digit_value c < high) × PlaceEnd p P w
  digit_known p q c low high w e end =
      let both = cond_some _ _ _ e in
      let tests = and_true _ _ both.0 in
      (most_from _ _ tests.0, less_from _ _ tests.1, place_known p q w both.1 end)

  back_digit : (p q : Place) (c low high : ℕ) (w : List ℕ) → after_digit c low high p ≡ Some q
      → PlaceEnd q P w → Digit low high (PlaceEnd p P) (c ∷ w)
  back_digit p q c low high w e end =
      let is = digit_known p q c low high w e end in
      digit_first (PlaceEnd p P) c low high w is.0 is.1 is.2

  back_mark : (p q : Place) (c k : ℕ) (w : List ℕ) → past_mark c k p ≡ Some q → PlaceEnd q P w
      → Mark k (PlaceEnd p P) (c ∷ w)
  back_mark p q c k w e end =
      let both = cond_some _ _ _ e in
      record {
        rest = w;
        is_spelled = ap (λ x. x ∷ w) (eqb-true c k both.0);
        ends = place_known p q w both.1 end;
      }

  none_out : (v : ℕ) (p : Place) → cond (nat_le 13 v && nat_lt v 14) (Some p) None ≡ None
      → (v < 13) ⊎ (14 ≤ v)
  none_out v p e = grind (arith, nat_tests)

  pub place_back : (place q : Place) (c : ℕ) (w : List ℕ) → string_continued place c ≡ Some q
      → PlaceEnd q P w → PlaceEnd place P (c ∷ w)
  place_back Inside q c w e end = elim (chosen (c == backslash) _ _ _ e) [
    | inl is ↦
        rw (eqb-true c backslash is.0)
        (escape_back w (place_known Escaped q w is.1 end))
    | inr other ↦
        let both = cond_some _ _ _ other.1 in
        piece_first P (plain c) c w (by_true _ _ _ _ both.0 refl)
        (place_known Inside q w both.1 end)
  ]
  place_back Escaped q c w e end = elim (chosen (c == letter_u) _ _ _ e) [
    | inl is ↦ inr (back_mark Four q c letter_u w (by_true _ _ _ _ is.0 is.1) end)
    | inr other ↦
        let both = cond_some _ _ _ other.1 in
        let meant = is_some_found (escape_value c) both.0 in
        inl (record {
          letter = c;
          character = meant.0;
          is_meant = meant.1;
          rest = w;
          is_spelled = refl;
          ends = place_known Inside q w both.1 end;
        })
  ]
  place_back Four q c w e end = elim (either_found _ _ _ e) [
    | inl is ↦ inl (back_digit ThreeOfD q c 13 14 w is end)
    | inr other ↦
        let is = digit_known Three q c 0 16 w other.1 end in
        elim (none_out (digit_value c) ThreeOfD other.0) [
          | inl small ↦ inr (inl (digit_first (ThreeEnd Q) c 0 13 w is.0 small is.2))
          | inr large ↦ inr (inr (digit_first (ThreeEnd Q) c 14 16 w large is.1 is.2))
        ]
  ]
  place_back ThreeOfD q c w e end = elim (either_found _ _ _ e) [
    | inl is ↦ inl (back_digit Two q c 0 8 w is end)
    | inr other ↦ inr (back_digit HighTwo q c 8 12 w other.1 end)
  ]
  place_back Three q c w e end = back_digit Two q c 0 16 w e end
  place_back Two q c w e end = back_digit One q c 0 16 w e end
  place_back One q c w e end = back_digit Inside q c 0 16 w e end
  place_back HighTwo q c w e end = back_digit HighOne q c 0 16 w e end
  place_back HighOne q c w e end = back_digit Low q c 0 16 w e end
  place_back Low q c w e end = back_mark LowLetter q c backslash w e end
  place_back LowLetter q c w e end = back_mark LowUnit q c letter_u w e end
  place_back LowUnit q c w e end = back_digit LowOfD q c 13 14 w e end
  place_back LowOfD q c w e end = back_digit Two q c 12 16 w e end

  -- the closing quote
  pub quote_back : (w : List ℕ) → P w → StringEnd P (quote ∷ w)
  quote_back w end = record {
    pieces = [];
    bytes = [];
    is_meant = refl;
    rest = w;
    is_spelled = refl;
    ends = end;
  }
