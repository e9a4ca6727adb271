-- What completes a number after a character completes it before, with the character in front.
use Rattle.std.proofs.Common.{◌≡◌, ℕ, ◌+◌, ◌*◌, inl, inr, Bool, true, false, cond, refl, sym}
use Rattle.std.proofs.Common.{ap, ◌∙◌, subst, arith, List, [], ◌∷◌, ◌++◌, append_assoc, append-nil}
use Rattle.std.proofs.Common.{length, Some, None, eqb-true}
use Rattle.std.specs.Prelude.{pos, ◌-ℤ◌, ◌&&◌, not, ◌==◌, option_map}
use Rattle.std.specs.Char.{digit_value, is_digit, is_ascii_digit}
use Rattle.std.specs.Str.Parse.{digits_value_after}
use Rattle.jsonb_value.specs.declared.number.Number.{Number}
use Rattle.jsonb_value.specs.Tree.{number}
use Rattle.jsonb_value.specs.declared.parser.number.Exponents.{Exponents}
use Rattle.jsonb_value.specs.declared.parser.number.Exponents.TheVariants.{Forbidden, Allowed}
use Rattle.jsonb_value.specs.Json.Characters.{point, zero_digit, all_digits}
use Rattle.jsonb_value.specs.Json.Numeral as json
use Rattle.jsonb_value.specs.Json.Numeral.{Numeral, sign_text, is_whole, fraction_text}
use Rattle.jsonb_value.specs.Json.Numeral.{numeral_meaning, scaled_number}
use Rattle.jsonb_value.specs.Json.Syntax.{numeral}
use Rattle.jsonb_value.proofs.Json.Exponents.{scaled_plain}
use Rattle.jsonb_value.proofs.Json.Tests.{and_both, by_true, cond_some}
use Rattle.jsonb_value.proofs.Json.Tests.{some_same, bool_cases}
use Rattle.json_fault.specs.declared.number.Part.{Part}
use Rattle.json_fault.specs.declared.number.Part.TheVariants.{Sign, Zero, Whole, Point, Fraction}
use Rattle.json_fault.specs.declared.number.Numeral as code
use Rattle.json_fault.specs.Scan.{with_digit, with_point, number_begun, part_continued, is_end}
use Rattle.json_fault.proofs.Conditions.{either_found}
use Rattle.json_fault.proofs.Held.{room_number}
use Rattle.json_fault.proofs.Endings.{TailEnd, ZeroEnd, DigitsEnd, PointEnd, SignEnd, NumberEnd}
use Rattle.json_fault.proofs.Endings.{RestEnd, ValueEnd}
use Rattle.json_fault.proofs.ExponentBack.{ascii_digit}

-- ---- a number as a value

-- the numeral without an exponent
abbrev plain : Bool → List ℕ → List ℕ → Numeral
plain b w f = record { is_negative = b; whole = w; fraction = f; exponent = None }

meant_as : (rule : Exponents) (n : Numeral) (x : Number) → json.is_exponent rule n.exponent ≡ true
    → is_whole n.whole ≡ true → all_digits n.fraction ≡ true
    → scaled_number (pos (length n.fraction) -ℤ json.exponent_value n.exponent)
    (json.value_without_point n) ≡ Some x → numeral_meaning rule n ≡ Some x
meant_as rule n x exponent whole fraction worth =
    by_true (json.is_numeral rule n) _ None (Some x)
    (and_both (is_whole n.whole && all_digits n.fraction) (json.is_exponent rule n.exponent)
    (and_both (is_whole n.whole) (all_digits n.fraction) whole fraction) exponent) worth

no_exponent : (rule : Exponents) → json.is_exponent rule None ≡ true
no_exponent Forbidden = refl
no_exponent Allowed = refl

plain_spelled : (a w f r s : List ℕ) → s ≡ w ++ (f ++ r) → a ++ s ≡ (a ++ (w ++ (f ++ []))) ++ r
plain_spelled a w f r s e = grind (arith, append_assoc, append-nil)

marked_spelled : (a w f t x v r u s : List ℕ) (mark : ℕ) → s ≡ w ++ (f ++ r) → r ≡ mark ∷ u
    → u ≡ t ++ (x ++ v) → a ++ s ≡ (a ++ (w ++ (f ++ mark ∷ (t ++ x)))) ++ v
marked_spelled a w f t x v r u s mark e g h = grind (arith, append_assoc)

numeral_value : (rule : Exponents) (P : List ℕ → Type 0) (n : Numeral) (x : Number)
    (w rest : List ℕ) → numeral_meaning rule n ≡ Some x → w ≡ json.numeral_text n ++ rest → P rest
    → ValueEnd rule P w
numeral_value rule P n x w rest meant spelled end = record {
  blank = [];
  is_blank = refl;
  syntax = numeral n;
  value = number x;
  is_meant = ap (option_map number) meant;
  rest = rest;
  is_spelled = spelled;
  ends = end;
}

-- a number without its minus, as a value
pub value_of_sign : (rule : Exponents) (P : List ℕ → Type 0) (b : Bool) (w : List ℕ)
    → SignEnd (RestEnd rule b P) w → ValueEnd rule P (sign_text b ++ w)
value_of_sign rule P b w end = elim end.ends [
  | inl stops ↦
      let n = plain b end.whole end.fraction in
      let found = room_number b _ (length end.fraction) stops.0 in
      numeral_value rule P n found.0 (sign_text b ++ w) end.rest
      (meant_as rule n found.0 (no_exponent rule) end.is_whole_part end.is_fraction
      (scaled_plain (length end.fraction) (json.value_without_point n) ∙ found.1))
      (plain_spelled (sign_text b) end.whole (fraction_text end.fraction) end.rest w end.is_spelled)
      stops.1
  | inr marked ↦
      let mark = marked.ends in
      let n : Numeral = record {
        is_negative = b;
        whole = end.whole;
        fraction = end.fraction;
        exponent = Some (record { mark = marked.mark; sign = mark.sign; digits = mark.digits });
      } in
      let value = numeral_value Allowed P n mark.is_held.0 (sign_text b ++ w) mark.rest
      (meant_as Allowed n mark.is_held.0 (and_both _ _ marked.is_mark mark.are_digits)
      end.is_whole_part end.is_fraction mark.is_held.1)
      (marked_spelled (sign_text b) end.whole (fraction_text end.fraction)
      (json.exponent_sign_text mark.sign) mark.digits mark.rest end.rest marked.rest w marked.mark
      end.is_spelled marked.is_spelled mark.is_spelled)
      mark.ends in
      subst (λ (r : Exponents). ValueEnd r P (sign_text b ++ w)) (sym marked.is_allowed) value
]

-- ---- digits

abbrev pub numeral_at : Bool → Part → ℕ → ℕ → code.Numeral
numeral_at b p m k = record { is_negative = b; part = p; magnitude = m; scale = k }

module _ (R : ℕ → ℕ → List ℕ → Type 0) where
  pub rest_same : (m n j k : ℕ) (w : List ℕ) → R m j w → m ≡ n → j ≡ k → R n k w
  rest_same m n j k w end p q =
      subst (λ (i : ℕ). R n i w) q (subst (λ (i : ℕ). R i j w) p end)

  sign_zero : (c : ℕ) (w : List ℕ) → is_digit c 10 ≡ true → ZeroEnd (digit_value c) 0 R w
      → SignEnd R (c ∷ w)
  sign_zero c w is end = record {
    whole = c ∷ [];
    fraction = end.fraction;
    is_whole_part = ascii_digit c is;
    is_fraction = end.is_fraction;
    rest = end.rest;
    is_spelled = ap (λ r. c ∷ r) end.is_spelled;
    ends = rest_same _ _ _ _ end.rest end.ends
        (ap (λ m. digits_value_after 10 m end.fraction) (omega arith)) (omega arith);
  }

  whole_digits : (c : ℕ) (ds : List ℕ) → is_ascii_digit c ≡ true → (c == zero_digit) ≡ false
      → all_digits ds ≡ true → is_whole (c ∷ ds) ≡ true
  whole_digits c [] is other all = is
  whole_digits c (d ∷ ds) is other all =
      and_both _ _ (ap not other) (and_both _ _ is all)

  sign_whole : (c : ℕ) (w : List ℕ) → is_digit c 10 ≡ true → (c == zero_digit) ≡ false
      → TailEnd (digit_value c) 0 R w → SignEnd R (c ∷ w)
  sign_whole c w is other end = record {
    whole = c ∷ end.digits;
    fraction = end.fraction;
    is_whole_part = whole_digits c end.digits (ascii_digit c is) other end.are_digits;
    is_fraction = end.is_fraction;
    rest = end.rest;
    is_spelled = ap (λ r. c ∷ r) end.is_spelled;
    ends = rest_same _ _ _ _ end.rest end.ends
        (ap (λ m. digits_value_after 10 m (end.digits ++ end.fraction)) (omega arith))
        (omega arith);
  }

  pub point_zero : (m k c : ℕ) (w : List ℕ) → c ≡ point → PointEnd m k R w → ZeroEnd m k R (c ∷ w)
  point_zero m k c w is end = record {
    fraction = end.first ∷ end.digits;
    is_fraction = end.are_digits;
    rest = end.rest;
    is_spelled = cc;
    ends = end.ends;
  }

  pub point_tail : (m k c : ℕ) (w : List ℕ) → c ≡ point → PointEnd m k R w → TailEnd m k R (c ∷ w)
  point_tail m k c w is end = record {
    digits = [];
    fraction = end.first ∷ end.digits;
    are_digits = refl;
    is_fraction = end.are_digits;
    rest = end.rest;
    is_spelled = cc;
    ends = end.ends;
  }

  pub digit_tail : (m k c : ℕ) (w : List ℕ) → is_digit c 10 ≡ true
      → TailEnd (m * 10 + digit_value c) (k + 0) R w → TailEnd m k R (c ∷ w)
  digit_tail m k c w is end = record {
    digits = c ∷ end.digits;
    fraction = end.fraction;
    are_digits = and_both _ _ (ascii_digit c is) end.are_digits;
    is_fraction = end.is_fraction;
    rest = end.rest;
    is_spelled = ap (λ r. c ∷ r) end.is_spelled;
    ends = rest_same _ _ _ _ end.rest end.ends refl (omega arith);
  }

  pub digit_point : (m k c : ℕ) (w : List ℕ) → is_digit c 10 ≡ true
      → DigitsEnd (m * 10 + digit_value c) (k + 1) R w → PointEnd m k R (c ∷ w)
  digit_point m k c w is end = record {
    first = c;
    digits = end.digits;
    are_digits = and_both _ _ (ascii_digit c is) end.are_digits;
    rest = end.rest;
    is_spelled = ap (λ r. c ∷ r) end.is_spelled;
    ends = rest_same _ _ _ _ end.rest end.ends refl (omega arith);
  }

  pub digit_digits : (m k c : ℕ) (w : List ℕ) → is_digit c 10 ≡ true
      → DigitsEnd (m * 10 + digit_value c) (k + 1) R w → DigitsEnd m k R (c ∷ w)
  digit_digits m k c w is end = record {
    digits = c ∷ end.digits;
    are_digits = and_both _ _ (ascii_digit c is) end.are_digits;
    rest = end.rest;
    is_spelled = ap (λ r. c ∷ r) end.is_spelled;
    ends = rest_same _ _ _ _ end.rest end.ends refl (omega arith);
  }

  -- a number whose digits end here
  pub number_ends : (p : Part) (m k : ℕ) (w : List ℕ) → is_end p ≡ true → R m k w
      → NumberEnd p m k R w
  number_ends Sign m k w e end = absurd (let h : ⊥ = cc in h)
  number_ends Point m k w e end = absurd (let h : ⊥ = cc in h)
  number_ends Zero m k w e end = record {
    fraction = [];
    is_fraction = refl;
    rest = w;
    is_spelled = refl;
    ends = rest_same m m k (k + 0) w end refl (omega arith);
  }
  number_ends Whole m k w e end = record {
    digits = [];
    fraction = [];
    are_digits = refl;
    is_fraction = refl;
    rest = w;
    is_spelled = refl;
    ends = rest_same m m k (k + 0) w end refl (omega arith);
  }
  number_ends Fraction m k w e end = record {
    digits = [];
    are_digits = refl;
    rest = w;
    is_spelled = refl;
    ends = rest_same m m k (k + 0) w end refl (omega arith);
  }

-- for a number of each sign
module _ (F : Bool → ℕ → ℕ → List ℕ → Type 0) where
  abbrev pub NumeralEnd : code.Numeral → List ℕ → Type 0
  NumeralEnd n w = NumberEnd n.part n.magnitude n.scale (F n.is_negative) w

  pub sign_back : (b : Bool) (n : code.Numeral) (c : ℕ) (w : List ℕ) → number_begun b c ≡ Some n
      → NumeralEnd n w → SignEnd (F b) (c ∷ w)
  sign_back b n c w e end =
      let both = cond_some _ _ _ e in
      let same : NumberEnd (cond (c == zero_digit) Zero Whole) (digit_value c) 0 (F b) w =
      subst (λ (m : code.Numeral). NumeralEnd m w) (sym (some_same _ n both.1)) end in
      elim (bool_cases (c == zero_digit)) [
        | inl is ↦ sign_zero (F b) c w both.0
            (subst (λ (t : Bool). NumberEnd (cond t Zero Whole) (digit_value c) 0 (F b) w) is same)
        | inr other ↦ sign_whole (F b) c w both.0 other
            (subst (λ (t : Bool). NumberEnd (cond t Zero Whole) (digit_value c) 0 (F b) w) other
            same)
      ]

  module _ (rule : Exponents) (b : Bool) where
    -- the numeral after a digit or a point is known
    digit_known : (p q : Part) (m k more c : ℕ) (n : code.Numeral) (w : List ℕ)
        → with_digit rule (numeral_at b p m k) q more c ≡ Some n → NumeralEnd n w
        → (is_digit c 10 ≡ true) × NumberEnd q (m * 10 + digit_value c) (k + more) (F b) w
    digit_known p q m k more c n w e end =
        let both = cond_some _ _ _ e in
        let viable = cond_some _ _ _ both.1 in
        (both.0, subst (λ (m : code.Numeral). NumeralEnd m w) (sym (some_same _ n viable.1)) end)

    point_known : (p : Part) (m k c : ℕ) (n : code.Numeral) (w : List ℕ)
        → with_point rule (numeral_at b p m k) c ≡ Some n → NumeralEnd n w
        → (c ≡ point) × PointEnd m k (F b) w
    point_known p m k c n w e end =
        let both = cond_some _ _ _ e in
        let viable = cond_some _ _ _ both.1 in (
          eqb-true c point both.0,
          subst (λ (m : code.Numeral). NumeralEnd m w) (sym (some_same _ n viable.1)) end,
        )

    pub number_back : (p : Part) (m k : ℕ) (n : code.Numeral) (c : ℕ) (w : List ℕ)
        → part_continued rule p (numeral_at b p m k) c ≡ Some n → NumeralEnd n w
        → NumberEnd p m k (F b) (c ∷ w)
    number_back Sign m k n c w e end = sign_back b n c w e end
    number_back Zero m k n c w e end =
        let known = point_known Zero m k c n w e end in point_zero (F b) m k c w known.0 known.1
    number_back Whole m k n c w e end = elim (either_found _ _ _ e) [
      | inl is ↦
          let known = point_known Whole m k c n w is end in point_tail (F b) m k c w known.0 known.1
      | inr other ↦
          let known = digit_known Whole Whole m k 0 c n w other.1 end in
          digit_tail (F b) m k c w known.0 known.1
    ]
    number_back Point m k n c w e end =
        let known = digit_known Point Fraction m k 1 c n w e end in
        digit_point (F b) m k c w known.0 known.1
    number_back Fraction m k n c w e end =
        let known = digit_known Fraction Fraction m k 1 c n w e end in
        digit_digits (F b) m k c w known.0 known.1
