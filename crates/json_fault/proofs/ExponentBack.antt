-- What completes an exponent after a character completes it before, with the character in front.
use Rattle.std.proofs.Common.{◌≡◌, ℕ, ◌+◌, ◌-◌, ◌*◌, ◌<◌, inl, inr, Bool, true, false, refl, sym}
use Rattle.std.proofs.Common.{ap, subst, arith, List, [], ◌∷◌, ◌++◌, Option, Some, None, eqb-true}
use Rattle.std.specs.Prelude.{◌||◌, ◌==◌, nat_lt, min}
use Rattle.std.specs.Char.{digit_value, is_digit, is_ascii_digit}
use Rattle.std.specs.Str.Parse.{digits_value, digits_value_after}
use Rattle.std.proofs.lemmas.Bool.Decides.{nat_tests}
use Rattle.jsonb_value.specs.Json.Characters.{plus, minus, all_digits}
use Rattle.jsonb_value.specs.Json.Numeral as json
use Rattle.jsonb_value.specs.Json.Numeral.{no_sign, plus_sign, minus_sign}
use Rattle.jsonb_value.proofs.Json.Tests.{and_true, and_both, cond_some, chosen, some_same}
use Rattle.json_fault.specs.declared.number.Numeral.{Numeral}
use Rattle.json_fault.specs.declared.exponent.Exponent.{Exponent}
use Rattle.json_fault.specs.Scan.{limit, is_between, reaches, raising}
use Rattle.json_fault.specs.Scan.{exponent_continued, exponent_begun, is_final, without_digits}
use Rattle.json_fault.proofs.Conditions.{less_from, most_from, most_test}
use Rattle.json_fault.proofs.Powers.{value_ordered, or_second}
use Rattle.json_fault.proofs.Held.{raised_held, lowered_held}
use Rattle.json_fault.proofs.Endings.{is_filled, ExponentEnd, MarkEnd}

pub ascii_digit : (c : ℕ) → is_digit c 10 ≡ true → is_ascii_digit c ≡ true
ascii_digit c e = grind (arith, nat_tests)

abbrev pub exponent_at : Bool → ℕ → ℕ → Option ℕ → Exponent
exponent_at has v l g = record { has_digits = has; value = v; least = l; greatest = g }

some_digits : (ds : List ℕ) → all_digits ds ≡ true → (false || is_filled ds) ≡ true
    → json.are_digits ds ≡ true
some_digits [] all e = absurd (let h : ⊥ = cc in h)
some_digits (d ∷ ds) all e = all

pub or_first : (a b : Bool) → a ≡ true → (a || b) ≡ true
or_first a b e = grind arith

capped_held : (v l : ℕ) (ds : List ℕ)
    → is_between (digits_value_after 10 (min v l) ds) l None ≡ true
    → is_between (digits_value_after 10 v ds) l None ≡ true
capped_held v l ds e =
    let least = most_from l (digits_value_after 10 (min v l) ds) (and_true _ _ e).0 in
    let grown = value_ordered ds (min v l) v (omega arith) in
    and_both _ _ (most_test l (digits_value_after 10 v ds) (omega arith)) refl

module _ (P : List ℕ → Type 0) where
  one_more : (has : Bool) (v l : ℕ) (g : Option ℕ) (c : ℕ) (ds rest w : List ℕ)
      → is_digit c 10 ≡ true → all_digits ds ≡ true
      → is_between (digits_value_after 10 (v * 10 + digit_value c) ds) l g ≡ true
      → w ≡ ds ++ rest → P rest → ExponentEnd (exponent_at has v l g) P (c ∷ w)
  one_more has v l g c ds rest w digit all held spelled end = record {
    digits = c ∷ ds;
    are_digits = and_both _ _ (ascii_digit c digit) all;
    is_some = or_second has true refl;
    is_held = held;
    rest = rest;
    is_spelled = ap (λ r. c ∷ r) spelled;
    ends = end;
  }

  pub exponent_more : (has : Bool) (v l : ℕ) (g : Option ℕ) (y : Exponent) (c : ℕ) (w : List ℕ)
      → exponent_continued (exponent_at has v l g) c ≡ Some y → ExponentEnd y P w
      → ExponentEnd (exponent_at has v l g) P (c ∷ w)
  exponent_more has v l None y c w e end =
      let both = cond_some _ _ _ e in
      let value = v * 10 + digit_value c in
      let here = subst (λ (x : Exponent). ExponentEnd x P w)
      (sym (some_same (exponent_at true (min value l) l None) y both.1)) end in
      one_more has v l None c here.digits here.rest w both.0 here.are_digits
      (capped_held value l here.digits here.is_held) here.is_spelled here.ends
  exponent_more has v l (Some g) y c w e end =
      let both = cond_some _ _ _ e in
      let value = v * 10 + digit_value c in
      let fits = cond_some (reaches value l g) _ _ both.1 in
      let here = subst (λ (x : Exponent). ExponentEnd x P w)
      (sym (some_same (exponent_at true value l (Some g)) y fits.1)) end in
      one_more has v l (Some g) c here.digits here.rest w both.0 here.are_digits here.is_held
      here.is_spelled here.ends

  -- an exponent that ends here
  pub exponent_ends : (x : Exponent) (w : List ℕ) → is_final x ≡ true → P w → ExponentEnd x P w
  exponent_ends x w e end =
      let both = and_true x.has_digits (is_between x.value x.least x.greatest) e in
      record {
        digits = [];
        are_digits = refl;
        is_some = or_first x.has_digits false both.0;
        is_held = both.1;
        rest = w;
        is_spelled = refl;
        ends = end;
      }

  module _ (n : Numeral) (room : nat_lt n.magnitude (limit n.is_negative) ≡ true) where
    less : n.magnitude < limit n.is_negative
    less = less_from n.magnitude (limit n.is_negative) room

    abbrev Marked : List ℕ → Type 0
    Marked w = MarkEnd n.is_negative n.magnitude n.scale P w

    plain_mark : (w : List ℕ) → ExponentEnd (raising n) P w → Marked w
    plain_mark w end = record {
      sign = no_sign;
      digits = end.digits;
      are_digits = some_digits end.digits end.are_digits end.is_some;
      is_held = raised_held n.is_negative n.magnitude n.scale (digits_value 10 end.digits) less
          end.is_held;
      rest = end.rest;
      is_spelled = end.is_spelled;
      ends = end.ends;
    }

    plus_mark : (w : List ℕ) → ExponentEnd (raising n) P w → Marked (plus ∷ w)
    plus_mark w end = record {
      sign = plus_sign;
      digits = end.digits;
      are_digits = some_digits end.digits end.are_digits end.is_some;
      is_held = raised_held n.is_negative n.magnitude n.scale (digits_value 10 end.digits) less
          end.is_held;
      rest = end.rest;
      is_spelled = ap (λ r. plus ∷ r) end.is_spelled;
      ends = end.ends;
    }

    minus_mark : (w : List ℕ) → n.scale < 256
        → ExponentEnd (without_digits 0 (Some (255 - n.scale))) P w → Marked (minus ∷ w)
    minus_mark w small end = record {
      sign = minus_sign;
      digits = end.digits;
      are_digits = some_digits end.digits end.are_digits end.is_some;
      is_held = lowered_held n.is_negative n.magnitude n.scale (digits_value 10 end.digits) less
          small end.is_held;
      rest = end.rest;
      is_spelled = ap (λ r. minus ∷ r) end.is_spelled;
      ends = end.ends;
    }

    same_end : (x y : Exponent) (w : List ℕ) → Some x ≡ Some y → ExponentEnd y P w
        → ExponentEnd x P w
    same_end x y w e end = subst (λ (z : Exponent). ExponentEnd z P w) (sym (some_same x y e)) end

    pub sign_before : (x : Exponent) (c : ℕ) (w : List ℕ) → exponent_begun n c ≡ Some x
        → ExponentEnd x P w → Marked (c ∷ w)
    sign_before x c w e end = elim (chosen (c == plus) _ _ _ e) [
      | inl is ↦ rw (eqb-true c plus is.0) (plus_mark w (same_end (raising n) x w is.1 end))
      | inr other ↦ elim (chosen (c == minus) _ _ _ other.1) [
        | inl is ↦
            let both = cond_some (nat_lt n.scale 256) _ _ is.1 in
            rw (eqb-true c minus is.0) (minus_mark w (less_from n.scale 256 both.0)
            (same_end (without_digits 0 (Some (255 - n.scale))) x w both.1 end))
        | inr other ↦
            plain_mark (c ∷ w) (exponent_more false 0 (raising n).least (raising n).greatest x c w
            other.1 end)
      ]
    ]
