-- The scan goes through a number of any size, as far as it goes.
use Rattle.std.proofs.Common.{◌≡◌, ℕ, ◌⊎◌, inl, inr, Bool, true, false, cond, refl, sym, ap, ◌∙◌}
use Rattle.std.proofs.Common.{subst, arith, List, [], ◌∷◌, ◌++◌, Option, Some, None, eqb-true}
use Rattle.std.specs.Prelude.{◌||◌, ◌&&◌, ◌==◌, not}
use Rattle.std.specs.Char.{is_digit, is_ascii_digit}
use Rattle.std.proofs.lemmas.Bool.Decides.{nat_tests}
use Rattle.jsonb_value.specs.declared.parser.number.Exponents.{Exponents}
use Rattle.jsonb_value.specs.declared.parser.number.Exponents.TheVariants.{Allowed}
use Rattle.jsonb_value.specs.Json.Bind.{◌>>=◌}
use Rattle.jsonb_value.specs.Json.Characters.{plus, minus, point, comma, zero_digit, all_digits}
use Rattle.jsonb_value.specs.Json.Characters.{is_exponent_mark, is_blank, close_bracket}
use Rattle.jsonb_value.specs.Json.Characters.{close_brace}
use Rattle.jsonb_value.specs.Json.Numeral as json
use Rattle.jsonb_value.specs.Json.Numeral.{no_sign, plus_sign, minus_sign, sign_text, is_whole}
use Rattle.jsonb_value.specs.Json.Numeral.{fraction_text, exponent_text}
use Rattle.jsonb_value.proofs.Json.Tests.{and_true, cond_some, some_same, bool_cases, bind_then}
use Rattle.jsonb_value.proofs.Json.Tests.{by_true, by_false, bound, no_error}
use Rattle.json_fault.specs.declared.number.Part.{Part}
use Rattle.json_fault.specs.declared.number.Part.TheVariants.{Sign, Zero, Whole, Point, Fraction}
use Rattle.json_fault.specs.declared.number.Numeral.{Numeral}
use Rattle.json_fault.specs.declared.expected.Bracket.{Bracket}
use Rattle.json_fault.specs.declared.expected.Bracket.TheVariants.{Array, Object}
use Rattle.json_fault.specs.declared.expected.Expected.{Expected}
use Rattle.json_fault.specs.declared.expected.Expected.TheVariants.{Value, FirstItem, Digits}
use Rattle.json_fault.specs.declared.expected.Expected.TheVariants.{ExponentSign, ExponentDigits}
use Rattle.json_fault.specs.declared.expected.Change.TheVariants.{Keep}
use Rattle.json_fault.specs.Scan.{Move, keep, changed, innermost_bracket, followed, rest_followed}
use Rattle.json_fault.specs.Scan.{number_begun, number_continued, part_continued, exponent_begun}
use Rattle.json_fault.specs.Scan.{exponent_continued, part_goes_on, with_digit, with_point}
use Rattle.json_fault.specs.Scan.{takes_exponent}
use Rattle.json_fault.proofs.Conditions.{either_found}
use Rattle.json_fault.proofs.Powers.{or_second}
use Rattle.json_fault.proofs.Endings.{NumberEnd, SignEnd, PointEnd}
use Rattle.json_fault.proofs.ExponentBack.{ascii_digit, or_first}
use Rattle.json_fault.proofs.NumberBack.{numeral_at}
use Rattle.json_fault.proofs.NumberTails.{AnyExponent, MarkTail, Tail, Spelled, is_first}
use Rattle.json_fault.proofs.NumberGoes.{digit_is, none_test, other_than, no_blank}
use Rattle.json_fault.proofs.NumberGoes.{value_is_number}
use Rattle.json_fault.proofs.ExponentGoes.{mark_no_digit, mark_no_point}
use Rattle.json_fault.proofs.Going.{Position, arrives}

-- ---- the next character, and what completes the number after it

-- The part after one more digit.
abbrev part_after : Part → ℕ → Part
part_after Sign c = cond (c == zero_digit) Zero Whole
part_after Zero c = Zero
part_after Whole c = Whole
part_after Point c = Fraction
part_after Fraction c = Fraction

abbrev AtDigit : Part → ℕ → List ℕ → Type 0
AtDigit p c r =
    (is_digit c 10 ≡ true) × ((m k : ℕ) → NumberEnd (part_after p c) m k AnyExponent r)

abbrev AtPoint : ℕ → List ℕ → Type 0
AtPoint c r = (c ≡ point) × ((m k : ℕ) → PointEnd m k AnyExponent r)

abbrev AtMark : ℕ → List ℕ → Type 0
AtMark c r = (is_exponent_mark c ≡ true) × MarkTail r

abbrev Next : Part → ℕ → List ℕ → Type 0
Next p c r = AtDigit p c r ⊎ (AtPoint c r ⊎ AtMark c r)

heads_same : (c d : ℕ) (r s : List ℕ) → c ∷ r ≡ d ∷ s → (c ≡ d) × (r ≡ s)
heads_same c d r s e = (let h : c ≡ d = cc in h, let h : r ≡ s = cc in h)

at_mark : (c : ℕ) (r w : List ℕ) (x : Option json.Exponent) → json.is_exponent Allowed x ≡ true
    → w ≡ exponent_text x → c ∷ r ≡ w → AtMark c r
at_mark c r w None ok e is = absurd (let h : ⊥ = cc in h)
at_mark c r w (Some x) ok e is =
    let same = heads_same c x.mark r _ (is ∙ e) in
    let both = and_true _ _ ok in (
      ap is_exponent_mark same.0 ∙ both.0,
      record { sign = x.sign; digits = x.digits; are_digits = both.1; is_spelled = same.1 },
    )

at_fraction : (c : ℕ) (r f w : List ℕ) (m k : ℕ) → all_digits f ≡ true → AnyExponent m k w
    → c ∷ r ≡ fraction_text f ++ w → AtPoint c r ⊎ AtMark c r
at_fraction c r [] w m k all x is = inr (at_mark c r w x.0 x.1.0 x.1.1 is)
at_fraction c r (d ∷ ds) w m k all x is =
    let same = heads_same c point r _ is in
    inl (
      same.0,
      λ m k. record {
        first = d;
        digits = ds;
        are_digits = all;
        rest = w;
        is_spelled = same.1;
        ends = x;
      },
    )

at_digits : (c d : ℕ) (r ds w : List ℕ) → all_digits (d ∷ ds) ≡ true → c ∷ r ≡ d ∷ (ds ++ w)
    → (is_digit c 10 ≡ true) × ((all_digits ds ≡ true) × (r ≡ ds ++ w))
at_digits c d r ds w all is =
    let same = heads_same c d r _ is in
    let both = and_true _ _ all in
    (ap (λ x. is_digit x 10) same.0 ∙ digit_is d both.0, (both.1, same.1))

-- the digits of a number and its fraction
whole_next : (c : ℕ) (r ds f w : List ℕ) (m k : ℕ) → all_digits ds ≡ true → all_digits f ≡ true
    → AnyExponent m k w → c ∷ r ≡ ds ++ (fraction_text f ++ w) → Next Whole c r
whole_next c r [] f w m k digits all x is = inr (at_fraction c r f w m k all x is)
whole_next c r (d ∷ ds) f w m k digits all x is =
    let parts = at_digits c d r ds (fraction_text f ++ w) digits is in
    inl (
      parts.0,
      λ m k. record {
        digits = ds;
        fraction = f;
        are_digits = parts.1.0;
        is_fraction = all;
        rest = w;
        is_spelled = parts.1.1;
        ends = x;
      },
    )

-- the digits of a fraction, from the first on or later
fraction_next : (c : ℕ) (r ds w : List ℕ) (m k : ℕ) → all_digits ds ≡ true → AnyExponent m k w
    → c ∷ r ≡ ds ++ w → AtDigit Fraction c r ⊎ AtMark c r
fraction_next c r [] w m k digits x is = inr (at_mark c r w x.0 x.1.0 x.1.1 is)
fraction_next c r (d ∷ ds) w m k digits x is =
    let parts = at_digits c d r ds w digits is in
    inl (
      parts.0,
      λ m k. record {
        digits = ds;
        are_digits = parts.1.0;
        rest = w;
        is_spelled = parts.1.1;
        ends = x;
      },
    )

clash : {A : Type 0} (b : Bool) → b ≡ true → b ≡ false → A
clash b e h = absurd (let h : ⊥ = cc in h)

-- `0` alone, or digits that do not begin with it
whole_parts : (d : ℕ) (ds : List ℕ) → is_whole (d ∷ ds) ≡ true → (is_ascii_digit d ≡ true)
    × ((all_digits ds ≡ true) × ((d == zero_digit) ≡ true → ds ≡ []))
whole_parts d [] e = (e, (refl, λ zero. refl))
whole_parts d (c ∷ ds) e =
    let both = and_true (not (d == zero_digit)) (all_digits (d ∷ c ∷ ds)) e in
    let digits = and_true (is_ascii_digit d) (all_digits (c ∷ ds)) both.1 in
    let other = none_test (d == zero_digit) both.0 in
    (digits.0, (digits.1, λ zero. clash (d == zero_digit) zero other))

abbrev AfterFirst : Bool → List ℕ → Type 0
AfterFirst zero r = (m k : ℕ) → NumberEnd (cond zero Zero Whole) m k AnyExponent r

-- the first digit of a number
sign_next : (c : ℕ) (r whole f w : List ℕ) (m k : ℕ) → is_whole whole ≡ true
    → all_digits f ≡ true → AnyExponent m k w → c ∷ r ≡ whole ++ (fraction_text f ++ w)
    → AtDigit Sign c r
sign_next c r [] f w m k whole all x is = absurd (let h : ⊥ = cc in h)
sign_next c r (d ∷ ds) f w m k whole all x is =
    let same = heads_same c d r _ is in
    let parts = whole_parts d ds whole in
    let digit = ap (λ y. is_digit y 10) same.0 ∙ digit_is d parts.0 in
    let test : (c == zero_digit) ≡ (d == zero_digit) = ap (λ y. y == zero_digit) same.0 in
    elim (bool_cases (d == zero_digit)) [
      | inl zero ↦ (
        digit,
        subst (λ (t : Bool). AfterFirst t r) (sym (test ∙ zero)) (λ m k. record {
          fraction = f;
          is_fraction = all;
          rest = w;
          is_spelled = same.1 ∙ ap (λ s. s ++ (fraction_text f ++ w)) (parts.1.1 zero);
          ends = x;
        }),
      )
      | inr other ↦ (
        digit,
        subst (λ (t : Bool). AfterFirst t r) (sym (test ∙ other)) (λ m k. record {
          digits = ds;
          fraction = f;
          are_digits = parts.1.0;
          is_fraction = all;
          rest = w;
          is_spelled = same.1;
          ends = x;
        }),
      )
    ]

next : (p : Part) (m k c : ℕ) (r : List ℕ) → NumberEnd p m k AnyExponent (c ∷ r) → Next p c r
next Sign m k c r end =
    inl (sign_next c r end.whole end.fraction end.rest 0 0 end.is_whole_part end.is_fraction
    end.ends end.is_spelled)
next Zero m k c r end =
    inr (at_fraction c r end.fraction end.rest 0 0 end.is_fraction end.ends end.is_spelled)
next Whole m k c r end =
    whole_next c r end.digits end.fraction end.rest 0 0 end.are_digits end.is_fraction end.ends
    end.is_spelled
next Point m k c r end =
    let parts = at_digits c end.first r end.digits end.rest end.are_digits end.is_spelled in
    inl (
      parts.0,
      λ m k. record {
        digits = end.digits;
        are_digits = parts.1.0;
        rest = end.rest;
        is_spelled = parts.1.1;
        ends = end.ends;
      },
    )
next Fraction m k c r end =
    elim (fraction_next c r end.digits end.rest 0 0 end.are_digits end.ends end.is_spelled) [
      | inl digit ↦ inl digit
      | inr mark ↦ inr (inr mark)
    ]

-- the test on the next character agrees
pub part_goes : (p : Part) (m k c : ℕ) (r : List ℕ) → NumberEnd p m k AnyExponent (c ∷ r)
    → part_goes_on p c ≡ true
part_goes Sign m k c r end =
    ascii_digit c (sign_next c r end.whole end.fraction end.rest 0 0 end.is_whole_part
    end.is_fraction end.ends end.is_spelled).0
part_goes Zero m k c r end =
    elim (at_fraction c r end.fraction end.rest 0 0 end.is_fraction end.ends end.is_spelled) [
      | inl at ↦ or_first _ _ (ap (λ x. x == point) at.0)
      | inr mark ↦ or_second _ _ mark.0
    ]
part_goes Whole m k c r end = elim (next Whole m k c r end) [
  | inl digit ↦ or_first _ _ (or_first _ _ (ascii_digit c digit.0))
  | inr other ↦ elim other [
    | inl at ↦ or_first _ _ (or_second (is_ascii_digit c) _ (ap (λ x. x == point) at.0))
    | inr mark ↦ or_second _ _ mark.0
  ]
]
part_goes Point m k c r end =
    ascii_digit c (at_digits c end.first r end.digits end.rest end.are_digits end.is_spelled).0
part_goes Fraction m k c r end =
    elim (fraction_next c r end.digits end.rest 0 0 end.are_digits end.ends end.is_spelled) [
      | inl digit ↦ or_first _ _ (ascii_digit c digit.0)
      | inr mark ↦ or_second _ _ mark.0
    ]

-- ---- after a step

at_test : (c k : ℕ) → c ≡ k → (c == k) ≡ true
at_test c k e = grind (arith, nat_tests)

digit_no_point : (c : ℕ) → is_digit c 10 ≡ true → (c == point) ≡ false
digit_no_point c e = other_than c point (inl (omega arith)) (ascii_digit c e)

module _ (rule : Exponents) where
  digit_step : (n k : Numeral) (q : Part) (more c : ℕ) (r : List ℕ)
      → with_digit rule n q more c ≡ Some k → ((i j : ℕ) → NumberEnd q i j AnyExponent r)
      → Tail (Digits k) r
  digit_step n k q more c r e tails =
      let both = cond_some _ _ _ e in
      let viable = cond_some _ _ _ both.1 in
      subst (λ (x : Numeral). Tail (Digits x) r) (some_same _ k viable.1) (tails _ _)

  point_step : (n k : Numeral) (c : ℕ) (r : List ℕ) → with_point rule n c ≡ Some k
      → ((i j : ℕ) → PointEnd i j AnyExponent r) → Tail (Digits k) r
  point_step n k c r e tails =
      let both = cond_some _ _ _ e in
      let viable = cond_some _ _ _ both.1 in
      subst (λ (x : Numeral). Tail (Digits x) r) (some_same _ k viable.1) (tails _ _)

  begun_step : (b : Bool) (k : Numeral) (c : ℕ) (r : List ℕ) → number_begun b c ≡ Some k
      → AtDigit Sign c r → Tail (Digits k) r
  begun_step b k c r e at =
      let both = cond_some _ _ _ e in
      subst (λ (x : Numeral). Tail (Digits x) r) (some_same _ k both.1) (at.1 _ _)

  -- with a point no digit and no mark comes next
  point_only : (p : Part) (n k : Numeral) (c : ℕ) (r : List ℕ) → with_point rule n c ≡ Some k
      → Next p c r → Tail (Digits k) r
  point_only p n k c r e at =
      let is = (cond_some _ _ _ e).0 in
      elim at [
        | inl digit ↦ clash (c == point) is (digit_no_point c digit.0)
        | inr other ↦ elim other [
          | inl at ↦ point_step n k c r e at.1
          | inr mark ↦ clash (c == point) is (mark_no_point c mark.0)
        ]
      ]

  -- with a digit no point and no mark does
  digit_only : (p : Part) (n k : Numeral) (more c : ℕ) (r : List ℕ)
      → with_digit rule n (part_after p c) more c ≡ Some k → Next p c r → Tail (Digits k) r
  digit_only p n k more c r e at =
      let is = (cond_some _ _ _ e).0 in
      elim at [
        | inl digit ↦ digit_step n k (part_after p c) more c r e digit.1
        | inr other ↦ elim other [
          | inl at ↦ clash (c == point) (at_test c point at.0) (digit_no_point c is)
          | inr mark ↦ clash (is_digit c 10) is (mark_no_digit c mark.0)
        ]
      ]

  -- with a mark no digit and no point does
  mark_only : (p : Part) (c : ℕ) (r : List ℕ) → is_exponent_mark c ≡ true → Next p c r → MarkTail r
  mark_only p c r is at = elim at [
    | inl digit ↦ clash (is_digit c 10) digit.0 (mark_no_digit c is)
    | inr other ↦ elim other [
      | inl at ↦ clash (c == point) (at_test c point at.0) (mark_no_point c is)
      | inr mark ↦ mark.1
    ]
  ]

  digits_step : (p : Part) (n k : Numeral) (i j c : ℕ) (r : List ℕ)
      → part_continued rule p n c ≡ Some k → NumberEnd p i j AnyExponent (c ∷ r)
      → Tail (Digits k) r
  digits_step Sign n k i j c r e end =
      begun_step n.is_negative k c r e (sign_next c r end.whole end.fraction end.rest 0 0
      end.is_whole_part end.is_fraction end.ends end.is_spelled)
  digits_step Zero n k i j c r e end = point_only Zero n k c r e (next Zero i j c r end)
  digits_step Whole n k i j c r e end = elim (either_found _ _ _ e) [
    | inl is ↦ point_only Whole n k c r is (next Whole i j c r end)
    | inr other ↦ digit_only Whole n k 0 c r other.1 (next Whole i j c r end)
  ]
  digits_step Point n k i j c r e end = digit_only Point n k 1 c r e (next Point i j c r end)
  digits_step Fraction n k i j c r e end =
      digit_only Fraction n k 1 c r e (next Fraction i j c r end)

-- ---- no number goes on where it ends

-- A character of numbers, other than a sign.
abbrev is_numeric : ℕ → Bool
is_numeric c = is_ascii_digit c || ((c == point) || is_exponent_mark c)

next_numeric : (p : Part) (c : ℕ) (r : List ℕ) → Next p c r → is_numeric c ≡ true
next_numeric p c r at = elim at [
  | inl digit ↦ or_first _ _ (ascii_digit c digit.0)
  | inr other ↦ elim other [
    | inl at ↦ or_second _ _ (or_first _ _ (at_test c point at.0))
    | inr mark ↦ or_second _ _ (or_second _ _ mark.0)
  ]
]

numeric_is_not : (c k : ℕ) → is_numeric k ≡ false → is_numeric c ≡ true → (c == k) ≡ false
numeric_is_not c k other e = elim (bool_cases (c == k)) [
  | inl same ↦ clash (is_numeric c) e (ap is_numeric (eqb-true c k same) ∙ other)
  | inr differ ↦ differ
]

numeric_no_blank : (c : ℕ) → is_numeric c ≡ true → is_blank c ≡ false
numeric_no_blank c e =
    let space = numeric_is_not c 32 refl e in
    let tab = numeric_is_not c 9 refl e in
    let line = numeric_is_not c 10 refl e in
    let return = numeric_is_not c 13 refl e in
    grind arith

numeric_no_rest : (top : Option Bracket) (c : ℕ) → is_numeric c ≡ true
    → rest_followed top c ≡ None
numeric_no_rest None c e = by_false _ _ _ _ (numeric_no_blank c e) refl
numeric_no_rest (Some Array) c e =
    by_false _ _ _ _ (numeric_no_blank c e)
    (by_false _ _ _ _ (numeric_is_not c close_bracket refl e)
    (by_false _ _ _ _ (numeric_is_not c comma refl e) refl))
numeric_no_rest (Some Object) c e =
    by_false _ _ _ _ (numeric_no_blank c e)
    (by_false _ _ _ _ (numeric_is_not c close_brace refl e)
    (by_false _ _ _ _ (numeric_is_not c comma refl e) refl))

-- ---- after a character of the number, what completes it is left

-- a character at which a number begins
abbrev AtFirst : ℕ → List ℕ → Type 0
AtFirst c r = ((c ≡ minus) × SignEnd AnyExponent r) ⊎ AtDigit Sign c r

at_first : (b : Bool) (c : ℕ) (r whole f : List ℕ) (x : Option json.Exponent)
    → is_whole whole ≡ true → all_digits f ≡ true → json.is_exponent Allowed x ≡ true
    → sign_text b ++ (whole ++ (fraction_text f ++ exponent_text x)) ≡ c ∷ r → AtFirst c r
at_first true c r whole f x is_whole all ok e =
    let same = heads_same c minus r _ (sym e) in
    inl (
      same.0,
      record {
        whole = whole;
        fraction = f;
        is_whole_part = is_whole;
        is_fraction = all;
        rest = exponent_text x;
        is_spelled = same.1;
        ends = (x, (ok, refl));
      },
    )
at_first false c r whole f x is_whole all ok e =
    inr (sign_next c r whole f (exponent_text x) 0 0 is_whole all (x, (ok, refl)) (sym e))

first_of : (c : ℕ) (r : List ℕ) → Spelled (c ∷ r) → AtFirst c r
first_of c r s =
    let n = s.0 in
    let both = and_true (is_whole n.whole && all_digits n.fraction)
    (json.is_exponent Allowed n.exponent) s.1.0 in
    let digits = and_true (is_whole n.whole) (all_digits n.fraction) both.0 in
    at_first n.is_negative c r n.whole n.fraction n.exponent digits.0 digits.1 both.1 s.1.1

all_of_some : (ds : List ℕ) → json.are_digits ds ≡ true → all_digits ds ≡ true
all_of_some [] e = absurd (let h : ⊥ = cc in h)
all_of_some (d ∷ ds) e = e

after_sign : (s : json.Sign) (c : ℕ) (r ds : List ℕ) → json.are_digits ds ≡ true
    → c ∷ r ≡ json.exponent_sign_text s ++ ds → all_digits r ≡ true
after_sign no_sign c r [] e is = absurd (let h : ⊥ = cc in h)
after_sign no_sign c r (d ∷ ds) e is =
    ap all_digits (heads_same c d r ds is).1 ∙ (and_true (is_ascii_digit d) (all_digits ds) e).1
after_sign plus_sign c r ds e is =
    ap all_digits (heads_same c plus r ds is).1 ∙ all_of_some ds e
after_sign minus_sign c r ds e is =
    ap all_digits (heads_same c minus r ds is).1 ∙ all_of_some ds e

module _ (rule : Exponents) where
  digit_move : (e : Expected) (top : Option Bracket) (c : ℕ) → is_first e ≡ true
      → is_digit c 10 ≡ true
      → followed rule e top c ≡ (number_begun false c >>= λ n. keep (Digits n))
  digit_move Value top c first digit =
      let ascii = ascii_digit c digit in
      by_false _ _ _ _ (no_blank c ascii) (value_is_number c ascii)
  digit_move FirstItem top c first digit =
      let ascii = ascii_digit c digit in
      by_false _ _ _ _ (no_blank c ascii)
      (by_false _ _ _ _ (other_than c close_bracket (inr (omega arith)) ascii)
      (value_is_number c ascii))
  digit_move _ top c first digit = absurd (let h : ⊥ = cc in h)

  minus_move : (e : Expected) (top : Option Bracket) → is_first e ≡ true
      → followed rule e top minus ≡ Some (Digits (numeral_at true Sign 0 0), Keep)
  minus_move Value top first = refl
  minus_move FirstItem top first = refl
  minus_move _ top first = absurd (let h : ⊥ = cc in h)

  -- the first character of a number may come where one may begin
  pub first_comes : (e : Expected) (top : Option Bracket) (c : ℕ) (r : List ℕ)
      → is_first e ≡ true → Spelled (c ∷ r) → followed rule e top c ≡ None → ⊥
  first_comes e top c r first s none = elim (first_of c r s) [
    | inl signed ↦ no_error (sym none ∙ ap (followed rule e top) signed.0
        ∙ minus_move e top first)
    | inr digit ↦ no_error (sym none ∙ digit_move e top c first digit.0
        ∙ bound _ _ _ _ (by_true _ _ _ _ digit.0 refl) refl)
  ]

  first_step : (e : Expected) (top : Option Bracket) (m : Move) (c : ℕ) (r : List ℕ)
      → is_first e ≡ true → Spelled (c ∷ r) → followed rule e top c ≡ Some m → Tail m.0 r
  first_step e top m c r first s is = elim (first_of c r s) [
    | inl signed ↦ subst (λ (x : Move). Tail x.0 r)
        (some_same (Digits (numeral_at true Sign 0 0), Keep) m
        (sym (ap (followed rule e top) signed.0 ∙ minus_move e top first) ∙ is)) signed.1
    | inr digit ↦ bind_then (number_begun false c) _ _
        (sym (digit_move e top c first digit.0) ∙ is) (λ n begun last.
        subst (λ (x : Move). Tail x.0 r) (some_same (Digits n, Keep) m last)
        (begun_step rule false n c r begun digit))
  ]

  tail_step : (e : Expected) (top : Option Bracket) (m : Move) (c : ℕ) (r : List ℕ)
      → followed rule e top c ≡ Some m → Tail e (c ∷ r) → Tail m.0 r
  tail_step (Digits n) top m c r e tail =
      let at = next n.part n.magnitude n.scale c r tail in
      elim (either_found _ _ _ e) [
        | inl is ↦ bind_then (number_continued rule n c) _ _ is (λ k on last.
            subst (λ (x : Move). Tail x.0 r) (some_same (Digits k, Keep) m last)
            (digits_step rule n.part n k n.magnitude n.scale c r on tail))
        | inr other ↦ elim (either_found _ _ _ other.1) [
          | inl is ↦
              let both = cond_some _ _ _ is in
              let mark = (and_true (takes_exponent rule n) (is_exponent_mark c) both.0).1 in
              subst (λ (x : Move). Tail x.0 r) (some_same (ExponentSign n, Keep) m both.1)
              (mark_only rule n.part c r mark at)
          | inr last ↦ no_error (sym (numeric_no_rest top c (next_numeric n.part c r at))
              ∙ (cond_some _ _ _ last.1).1)
        ]
      ]
  tail_step (ExponentSign n) top m c r e tail =
      bind_then (exponent_begun n c) _ _ e (λ x is last.
      subst (λ (y : Move). Tail y.0 r) (some_same (ExponentDigits x, Keep) m last)
      (after_sign tail.sign c r tail.digits tail.are_digits tail.is_spelled))
  tail_step (ExponentDigits x) top m c r e tail =
      let both = and_true (is_ascii_digit c) (all_digits r) tail in
      elim (either_found _ _ _ e) [
        | inl is ↦ bind_then (exponent_continued x c) _ _ is (λ y on last.
            subst (λ (z : Move). Tail z.0 r) (some_same (ExponentDigits y, Keep) m last) both.1)
        | inr other ↦ no_error (sym (numeric_no_rest top c (or_first _ _ both.0))
            ∙ (cond_some _ _ _ other.1).1)
      ]
  tail_step _ top m c r e tail = absurd tail

  -- after any characters of the number
  tail_after : (x y : Position) (s r : List ℕ) → arrives rule x s ≡ Some y → Tail x.0 (s ++ r)
      → Tail y.0 r
  tail_after x y [] r e tail = subst (λ (z : Position). Tail z.0 r) (some_same x y e) tail
  tail_after x y (c ∷ s) r e tail =
      bind_then (followed rule x.0 (innermost_bracket x.1) c) _ _ e (λ m is last.
      tail_after (m.0, changed m.1 x.1) y s r last
      (tail_step x.0 (innermost_bracket x.1) m c (s ++ r) is tail))

  pub tail_of_number : (x y : Position) (c : ℕ) (s r : List ℕ) → is_first x.0 ≡ true
      → arrives rule x (c ∷ s) ≡ Some y → Spelled (c ∷ (s ++ r)) → Tail y.0 r
  tail_of_number x y c s r first e spelled =
      bind_then (followed rule x.0 (innermost_bracket x.1) c) _ _ e (λ m is last.
      tail_after (m.0, changed m.1 x.1) y s r last
      (first_step x.0 (innermost_bracket x.1) m c (s ++ r) first spelled is))
