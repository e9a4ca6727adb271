-- The scan goes through the pieces of a string.
use Rattle.std.proofs.Common.{◌≡◌, ℕ, ◌<◌, ◌≤◌, ◌⊎◌, inl, inr, true, false, refl, ap, ◌∙◌, arith}
use Rattle.std.proofs.Common.{List, [], ◌∷◌, ◌++◌, append_assoc, Some, None}
use Rattle.std.specs.Prelude.{◌&&◌, ◌==◌, nat_lt, nat_le, is_some}
use Rattle.std.specs.Char.{digit_value}
use Rattle.std.proofs.lemmas.Bool.Decides.{nat_tests}
use Rattle.jsonb_value.specs.declared.parser.number.Exponents.{Exponents}
use Rattle.jsonb_value.specs.Json.Characters.{quote, backslash, letter_u}
use Rattle.jsonb_value.specs.Json.Piece.{Piece, unit4, plain, escape, unit, surrogates}
use Rattle.jsonb_value.specs.Json.Piece.{piece_text, pieces_text, piece_meaning, pieces_meaning}
use Rattle.jsonb_value.specs.Json.Piece.{unit_value, unit_character, pair_character}
use Rattle.jsonb_value.specs.Json.Piece.{is_high, is_low, escape_value, is_plain}
use Rattle.jsonb_value.proofs.Json.Tests.{and_true, and_both, by_true, by_false, bind_then}
use Rattle.jsonb_value.proofs.Json.Tests.{cond_some, some_same}
use Rattle.json_fault.specs.declared.string.Place.{Place}
use Rattle.json_fault.specs.declared.string.Place.TheVariants.{Inside, Escaped, Four, ThreeOfD}
use Rattle.json_fault.specs.declared.string.Place.TheVariants.{Three, Two, One, HighTwo, HighOne}
use Rattle.json_fault.specs.declared.string.Place.TheVariants.{Low, LowLetter, LowUnit, LowOfD}
use Rattle.json_fault.specs.declared.expected.Bracket.{Bracket}
use Rattle.json_fault.specs.declared.expected.Expected.{Expected}
use Rattle.json_fault.specs.declared.expected.Change.TheVariants.{Keep}
use Rattle.json_fault.specs.Scan.{innermost_bracket, followed, after_digit, string_continued}
use Rattle.json_fault.specs.Scan.{is_closed}
use Rattle.json_fault.proofs.Conditions.{less_from, less_test, most_test, either_none, either_first}
use Rattle.json_fault.proofs.StringBack.{unit_number}
use Rattle.json_fault.proofs.Going.{Going, step}

-- ---- digits

after_digit_is : (c low high : ℕ) (q : Place) → low ≤ digit_value c → digit_value c < high
    → after_digit c low high q ≡ Some q
after_digit_is c low high q is_low is_high =
    by_true _ _ _ _ (and_both _ _ (most_test _ _ is_low) (less_test _ _ is_high)) refl

outside : (v low high : ℕ) → (v < low) ⊎ (high ≤ v) → (nat_le low v && nat_lt v high) ≡ false
outside v low high h = grind (arith, nat_tests)

after_digit_none : (c low high : ℕ) (q : Place) → (digit_value c < low) ⊎ (high ≤ digit_value c)
    → after_digit c low high q ≡ None
after_digit_none c low high q h = by_false _ _ _ _ (outside (digit_value c) low high h) refl

-- four digits and their number
record AreDigits (a b c d v : ℕ) : Type 0 where
  first : digit_value a < 16
  second : digit_value b < 16
  third : digit_value c < 16
  fourth : digit_value d < 16
  number : unit_number (digit_value a) (digit_value b) (digit_value c) (digit_value d) ≡ v

are_digits : (a b c d v : ℕ) → unit_value (unit4 a b c d) ≡ Some v → AreDigits a b c d v
are_digits a b c d v e =
    let both = cond_some _ _ _ e in
    let three = and_true _ _ both.0 in
    let two = and_true _ _ three.0 in
    let one = and_true _ _ two.0 in
    record {
      first = less_from _ _ one.0;
      second = less_from _ _ one.1;
      third = less_from _ _ two.1;
      fourth = less_from _ _ three.1;
      number = some_same _ v both.1;
    }

no_half : (u v : ℕ) → unit_character u ≡ Some v → (u < 0xd800) ⊎ (0xe000 ≤ u)
no_half u v e = grind (arith, nat_tests)

le_cases : (a : ℕ) → (a < 13) ⊎ (13 ≤ a)
le_cases a = grind arith

-- which digits begin a whole character
whole_character : (a b c d v : ℕ) → a < 16 → b < 16 → c < 16 → d < 16 → unit_number a b c d ≡ v
    → (v < 0xd800) ⊎ (0xe000 ≤ v) → ((a < 13) ⊎ (14 ≤ a))
    ⊎ ((13 ≤ a) × (a < 14) × (b < 8))
whole_character a b c d v ha hb hc hd e (inl small) = elim (le_cases a) [
  | inl less ↦ inl (inl less)
  | inr other ↦ inr (omega arith, omega arith, omega arith)
]
whole_character a b c d v ha hb hc hd e (inr large) = inl (inr (omega arith))

is_high_from : (h : ℕ) → is_high h ≡ true → (0xd800 ≤ h) × (h < 0xdc00)
is_high_from h e = grind (arith, nat_tests)

is_low_from : (l : ℕ) → is_low l ≡ true → (0xdc00 ≤ l) × (l < 0xe000)
is_low_from l e = grind (arith, nat_tests)

high_first : (a b c d v : ℕ) → a < 16 → b < 16 → c < 16 → d < 16 → unit_number a b c d ≡ v
    → 0xd800 ≤ v → v < 0xe000 → (13 ≤ a) × (a < 14)
high_first a b c d v ha hb hc hd e low high = (omega arith, omega arith)

high_second : (a b c d v : ℕ) → a ≡ 13 → b < 16 → c < 16 → d < 16 → unit_number a b c d ≡ v
    → 0xd800 ≤ v → v < 0xdc00 → (8 ≤ b) × (b < 12)
high_second a b c d v ha hb hc hd e low high = (omega arith, omega arith)

low_second : (a b c d v : ℕ) → a ≡ 13 → b < 16 → c < 16 → d < 16 → unit_number a b c d ≡ v
    → 0xdc00 ≤ v → 12 ≤ b
low_second a b c d v ha hb hc hd e low = omega arith

thirteen : (a : ℕ) → (13 ≤ a) × (a < 14) → a ≡ 13
thirteen a h = omega arith

plain_open : (c : ℕ) → is_plain c ≡ true → ((c == quote) ≡ false) × ((c == backslash) ≡ false)
plain_open c e = grind (arith, nat_tests)

escape_no_u : (c v : ℕ) → escape_value c ≡ Some v → (c == letter_u) ≡ false
escape_no_u c v e = grind (arith, nat_tests)

-- ---- strings that are values, or keys

module _ (rule : Exponents) (at : Place → Expected) (moves : (place q : Place) (c : ℕ)
    (bs : List Bracket) → is_closed place c ≡ false → string_continued place c ≡ Some q
    → followed rule (at place) (innermost_bracket bs) c ≡ Some (at q, Keep))
    (bs : List Bracket) where
  one_step : (place q : Place) (c : ℕ) (w : List ℕ) → is_closed place c ≡ false
      → string_continued place c ≡ Some q → Going rule (at q) bs w
      → Going rule (at place) bs (c ∷ w)
  one_step place q c w opened is more =
      step rule (at place) bs (at q, Keep) c w (moves place q c bs opened is) more

  escape_steps : (w : List ℕ) → Going rule (at Four) bs w
      → Going rule (at Inside) bs (backslash ∷ letter_u ∷ w)
  escape_steps w more = one_step Inside Escaped backslash (letter_u ∷ w) refl refl
      (one_step Escaped Four letter_u w refl refl more)

  two_steps : (c d : ℕ) (w : List ℕ) → digit_value c < 16 → digit_value d < 16
      → Going rule (at Inside) bs w → Going rule (at Two) bs (c ∷ d ∷ w)
  two_steps c d w hc hd more =
      one_step Two One c (d ∷ w) refl (after_digit_is c 0 16 One (omega arith) hc)
      (one_step One Inside d w refl (after_digit_is d 0 16 Inside (omega arith) hd) more)

  unit_goes : (a b c d u v : ℕ) (w : List ℕ) → unit_value (unit4 a b c d) ≡ Some u
      → unit_character u ≡ Some v → Going rule (at Inside) bs w
      → Going rule (at Inside) bs (backslash ∷ letter_u ∷ a ∷ b ∷ c ∷ d ∷ w)
  unit_goes a b c d u v w e f more =
      let are = are_digits a b c d u e in
      let last = two_steps c d w are.third are.fourth more in
      escape_steps (a ∷ b ∷ c ∷ d ∷ w)
      (elim (whole_character (digit_value a) (digit_value b) (digit_value c) (digit_value d) u
      are.first are.second are.third are.fourth are.number (no_half u v f)) [
        | inl other ↦
            one_step Four Three a (b ∷ c ∷ d ∷ w) refl
            (either_none _ _ (after_digit_none a 13 14 ThreeOfD other)
            ∙ after_digit_is a 0 16 Three (omega arith) are.first)
            (one_step Three Two b (c ∷ d ∷ w) refl
            (after_digit_is b 0 16 Two (omega arith) are.second) last)
        | inr is ↦
            one_step Four ThreeOfD a (b ∷ c ∷ d ∷ w) refl
            (either_first _ _ _ (after_digit_is a 13 14 ThreeOfD is.0 is.1))
            (one_step ThreeOfD Two b (c ∷ d ∷ w) refl
            (either_first _ _ _ (after_digit_is b 0 8 Two (omega arith) is.2)) last)
      ])

  low_goes : (s t x y l : ℕ) (w : List ℕ) → unit_value (unit4 s t x y) ≡ Some l
      → is_low l ≡ true → Going rule (at Inside) bs w
      → Going rule (at Low) bs (backslash ∷ letter_u ∷ s ∷ t ∷ x ∷ y ∷ w)
  low_goes s t x y l w e f more =
      let are = are_digits s t x y l e in
      let range = is_low_from l f in
      let first = high_first (digit_value s) (digit_value t) (digit_value x) (digit_value y) l
      are.first are.second are.third are.fourth are.number (omega arith) range.1 in
      let second = low_second (digit_value s) (digit_value t) (digit_value x) (digit_value y) l
      (thirteen (digit_value s) first) are.second are.third are.fourth are.number range.0 in
      one_step Low LowLetter backslash _ refl refl
      (one_step LowLetter LowUnit letter_u _ refl refl
      (one_step LowUnit LowOfD s _ refl (after_digit_is s 13 14 LowOfD first.0 first.1)
      (one_step LowOfD Two t _ refl (after_digit_is t 12 16 Two second are.second)
      (two_steps x y w are.third are.fourth more))))

  pair_goes : (a b c d s t x y h l v : ℕ) (w : List ℕ) → unit_value (unit4 a b c d) ≡ Some h
      → unit_value (unit4 s t x y) ≡ Some l → pair_character h l ≡ Some v
      → Going rule (at Inside) bs w
      → Going rule (at Inside) bs (backslash ∷ letter_u ∷ a ∷ b ∷ c ∷ d ∷ backslash ∷ letter_u ∷ s
      ∷ t ∷ x ∷ y ∷ w)
  pair_goes a b c d s t x y h l v w e f g more =
      let halves = and_true _ _ (cond_some _ _ _ g).0 in
      let are = are_digits a b c d h e in
      let range = is_high_from h halves.0 in
      let first = high_first (digit_value a) (digit_value b) (digit_value c) (digit_value d) h
      are.first are.second are.third are.fourth are.number range.0 (omega arith) in
      let second = high_second (digit_value a) (digit_value b) (digit_value c) (digit_value d) h
      (thirteen (digit_value a) first) are.second are.third are.fourth are.number range.0 range.1 in
      escape_steps _
      (one_step Four ThreeOfD a _ refl
      (either_first _ _ _ (after_digit_is a 13 14 ThreeOfD first.0 first.1))
      (one_step ThreeOfD HighTwo b _ refl
      (either_none _ _ (after_digit_none b 0 8 Two (inr second.0))
      ∙ after_digit_is b 8 12 HighTwo second.0 second.1)
      (one_step HighTwo HighOne c _ refl (after_digit_is c 0 16 HighOne (omega arith) are.third)
      (one_step HighOne Low d _ refl (after_digit_is d 0 16 Low (omega arith) are.fourth)
      (low_goes s t x y l w f halves.1 more)))))

  piece_goes : (p : Piece) (v : ℕ) (w : List ℕ) → piece_meaning p ≡ Some v
      → Going rule (at Inside) bs w → Going rule (at Inside) bs (piece_text p ++ w)
  piece_goes (plain c) v w e more =
      let is = (cond_some _ _ _ e).0 in
      let opened = plain_open c is in
      one_step Inside Inside c w opened.0 (by_false _ _ _ _ opened.1 (by_true _ _ _ _ is refl)) more
  piece_goes (escape c) v w e more =
      one_step Inside Escaped backslash (c ∷ w) refl refl
      (one_step Escaped Inside c w refl (by_false _ _ _ _ (escape_no_u c v e)
      (by_true _ _ _ _ (ap is_some e) refl)) more)
  piece_goes (unit (unit4 a b c d)) v w e more =
      bind_then (unit_value (unit4 a b c d)) _ _ e (λ u is last.
      unit_goes a b c d u v w is last more)
  piece_goes (surrogates (unit4 a b c d) (unit4 s t x y)) v w e more =
      bind_then (unit_value (unit4 a b c d)) _ _ e (λ h is last.
      bind_then (unit_value (unit4 s t x y)) _ _ last (λ l also end.
      pair_goes a b c d s t x y h l v w is also end more))

  pub pieces_go : (ps : List Piece) (bytes w : List ℕ) → pieces_meaning ps ≡ Some bytes
      → Going rule (at Inside) bs w → Going rule (at Inside) bs (pieces_text ps ++ w)
  pieces_go [] bytes w e more = more
  pieces_go (p ∷ ps) bytes w e more =
      bind_then (piece_meaning p) _ _ e (λ v is last.
      bind_then (pieces_meaning ps) _ _ last (λ others are end.
      rw append_assoc
      (piece_goes p v (pieces_text ps ++ w) is (pieces_go ps others w are more))))
