-- What is read as a number is spelled that way, and what is spelled as a number is read.
use Rattle.std.proofs.Common.{arith}
use Rattle.std.proofs.Common.{◌≡◌, ℕ, Bool, true, false, inl, inr, Option, Some, None, refl, sym}
use Rattle.std.proofs.Common.{ap, ◌∙◌, List, [], ◌∷◌, ◌++◌, length, append_assoc, eqb-true}
use Rattle.std.specs.Prelude.{◌&&◌, ◌==◌, ℤ, pos, ◌-ℤ◌}
use Rattle.std.specs.Char.{is_ascii_digit}
use Rattle.std.specs.Str.Parse.{digits_value}
use Rattle.jsonb_value.specs.declared.number.Number.{Number}
use Rattle.jsonb_value.specs.declared.parser.number.Exponents.{Exponents}
use Rattle.jsonb_value.specs.declared.parser.number.Exponents.TheVariants.{Forbidden, Allowed}
use Rattle.jsonb_value.specs.Json.Characters.{all_digits, is_exponent_mark, minus, plus, point}
use Rattle.jsonb_value.specs.Json.Characters.{zero_digit}
use Rattle.jsonb_value.specs.Json.Numeral.{Numeral, Exponent, Sign, no_sign, plus_sign, minus_sign}
use Rattle.jsonb_value.specs.Json.Numeral.{sign_text, fraction_text, exponent_sign_text}
use Rattle.jsonb_value.specs.Json.Numeral.{exponent_text, numeral_text, is_whole, are_digits}
use Rattle.jsonb_value.specs.Json.Numeral.{is_exponent, is_numeral, signed_number, is_minus}
use Rattle.jsonb_value.specs.Json.Numeral.{exponent_value, scaled_number, numeral_meaning}
use Rattle.jsonb_value.specs.Reader.Reading.{front_digits, after_digits, read_sign, read_whole}
use Rattle.jsonb_value.specs.Reader.Reading.{some_digits, read_fraction, read_either_sign}
use Rattle.jsonb_value.specs.Reader.Reading.{read_integer, read_exponent, read_number}
use Rattle.jsonb_value.proofs.Json.Tests.{bool_cases, bind_then, some_pair, chosen, cond_some}
use Rattle.jsonb_value.proofs.Json.Tests.{and_true, and_both, pair_found}
use Rattle.jsonb_value.proofs.Json.Digits.{digits-split, all_digits-front, stops, no_mark}
use Rattle.jsonb_value.proofs.Json.Digits.{ends_number}
use Rattle.jsonb_value.proofs.Json.Digits.{front_digits-end, after_digits-end, front_digits-append}
use Rattle.jsonb_value.proofs.Json.Digits.{after_digits-append}

sign-split : (s : List ℕ) → s ≡ sign_text (read_sign s).0 ++ (read_sign s).1
sign-split s = grind (arith, eqb-true)

whole_from : (c : ℕ) (ds : List ℕ) → is_ascii_digit c ≡ true → (c == zero_digit) ≡ false
    → all_digits ds ≡ true → is_whole (c ∷ ds) ≡ true
whole_from c ds is other all = grind arith

whole-found : (s w rest : List ℕ) → read_whole s ≡ Some (w, rest) → (is_whole w ≡ true)
    × (s ≡ w ++ rest)
whole-found s w rest e = grind (arith, whole_from, all_digits-front, digits-split)

some_digits-found : (s ds rest : List ℕ) → some_digits s ≡ Some (ds, rest) → (all_digits ds ≡ true)
    × (point ∷ s ≡ fraction_text ds ++ rest)
some_digits-found s ds rest e = grind (arith, all_digits-front, digits-split)

fraction-found : (s ds rest : List ℕ) → read_fraction s ≡ Some (ds, rest) → (all_digits ds ≡ true)
    × (s ≡ fraction_text ds ++ rest)
fraction-found [] ds rest e = grind arith
fraction-found (c ∷ s) ds rest e = elim (bool_cases (c == point)) [
  | inl is ↦
      let found : some_digits s ≡ Some (ds, rest) = rw is at e in
      let parts = some_digits-found s ds rest found in
      (parts.0, ap (λ d. d ∷ s) (eqb-true c point is) ∙ parts.1)
  | inr other ↦
      let found : Some ([], c ∷ s) ≡ Some (ds, rest) = rw other at e in
      let parts = some_pair [] ds (c ∷ s) rest found in
      (ap all_digits (sym parts.0), parts.1 ∙ ap (λ t. fraction_text t ++ rest) parts.0)
]

digits-found : (s ds rest : List ℕ) → some_digits s ≡ Some (ds, rest) → (are_digits ds ≡ true)
    × (s ≡ ds ++ rest)
digits-found s ds rest e = grind (arith, all_digits-front, digits-split)

-- the sign of an integer, or none
record IsSignFront (s : List ℕ) : Type 0 where
  sign : Sign
  is_meant : is_minus sign ≡ (read_either_sign s).0
  is_spelled : s ≡ exponent_sign_text sign ++ (read_either_sign s).1

minus-found : (c : ℕ) (s : List ℕ) → (c == plus) ≡ false → IsSignFront (c ∷ s)
minus-found c s other = elim (bool_cases (c == minus)) [
  | inl is ↦ record {
    sign = minus_sign;
    is_meant = rw (other, is) refl;
    is_spelled = rw (other, is) (ap (λ d. d ∷ s) (eqb-true c minus is));
  }
  | inr none ↦
      record {
        sign = no_sign;
        is_meant = rw (other, none) refl;
        is_spelled = rw
            (other, none) refl;
      }
]

sign-found : (s : List ℕ) → IsSignFront s
sign-found [] = record { sign = no_sign; is_meant = refl; is_spelled = refl }
sign-found (c ∷ s) = elim (bool_cases (c == plus)) [
  | inl is ↦ record {
    sign = plus_sign;
    is_meant = rw is refl;
    is_spelled = rw is (ap (λ d. d ∷ s) (eqb-true c plus is));
  }
  | inr other ↦ minus-found c s other
]

-- an exponent at the start of the text, or nothing
record IsExponentFront (rule : Exponents) (s : List ℕ) (z : ℤ) (rest : List ℕ) : Type 0 where
  exponent : Option Exponent
  is_proper : is_exponent rule exponent ≡ true
  is_meant : exponent_value exponent ≡ z
  is_spelled : s ≡ exponent_text exponent ++ rest

no_exponent-found : (rule : Exponents) (s : List ℕ) (z : ℤ) (rest : List ℕ)
    → pair_found (pos 0) s ≡ Some (z, rest) → IsExponentFront rule s z rest
no_exponent-found rule s z rest e =
    let same = some_pair (pos 0) z s rest e in
    record { exponent = None; is_proper = refl; is_meant = same.0; is_spelled = same.1 }

integer-found : (c : ℕ) (s : List ℕ) (z : ℤ) (rest : List ℕ) → is_exponent_mark c ≡ true
    → read_integer s ≡ Some (z, rest) → IsExponentFront Allowed (c ∷ s) z rest
integer-found c s z rest mark e =
    bind_then (some_digits (read_either_sign s).1) _ _ e (λ digits are_digits end.
    let sign = sign-found s in
    let found = digits-found _ digits.0 digits.1 are_digits in
    let same = some_pair _ z digits.1 rest end in
    record {
      exponent = Some (record { mark = c; sign = sign.sign; digits = digits.0 });
      is_proper = and_both _ _ mark found.0;
      is_meant = ap (λ b. signed_number b (digits_value 10 digits.0)) sign.is_meant ∙ same.0;
      is_spelled = ap (λ t. c ∷ t)
          (sign.is_spelled ∙ ap (λ t. exponent_sign_text sign.sign ++ t)
          (found.1 ∙ ap (λ t. digits.0 ++ t) same.1)
          ∙ simp append_assoc);
    })

exponent-found : (rule : Exponents) (s : List ℕ) (z : ℤ) (rest : List ℕ)
    → read_exponent rule s ≡ Some (z, rest) → IsExponentFront rule s z rest
exponent-found Forbidden s z rest e = no_exponent-found Forbidden s z rest e
exponent-found Allowed [] z rest e = no_exponent-found Allowed [] z rest e
exponent-found Allowed (c ∷ s) z rest e = elim (chosen (is_exponent_mark c) _ _ _ e) [
  | inl is ↦ integer-found c s z rest is.0 is.1
  | inr other ↦ no_exponent-found Allowed (c ∷ s) z rest other.1
]

-- a number at the start of the text
pub record IsNumberFront (rule : Exponents) (s : List ℕ) (x : Number) (rest : List ℕ) : Type 0 where
  pub numeral : Numeral
  pub is_meant : numeral_meaning rule numeral ≡ Some x
  pub is_spelled : s ≡ numeral_text numeral ++ rest

number_from : (rule : Exponents) (s w f s1 s2 rest : List ℕ) (z : ℤ) (x : Number)
    → (is_whole w ≡ true) × ((read_sign s).1 ≡ w ++ s1) → (all_digits f ≡ true)
    × (s1 ≡ fraction_text f ++ s2) → IsExponentFront rule s2 z rest
    → scaled_number (pos (length f) -ℤ z)
    (signed_number (read_sign s).0 (digits_value 10 (w ++ f))) ≡ Some x
    → IsNumberFront rule s x rest
number_from rule s w f s1 s2 rest z x whole fraction exponent value =
    let digits : (is_whole w && all_digits f) ≡ true = and_both _ _ whole.0 fraction.0 in
    let proper : (is_whole w && all_digits f && is_exponent rule exponent.exponent) ≡ true =
    and_both _ _ digits exponent.is_proper in
    record {
      numeral = record {
        is_negative = (read_sign s).0;
        whole = w;
        fraction = f;
        exponent = exponent.exponent;
      };
      is_meant = rw (proper, exponent.is_meant) value;
      is_spelled = sign-split s ∙ ap (λ t. sign_text (read_sign s).0 ++ t)
          (whole.1 ∙ ap (λ t. w ++ t)
          (fraction.1 ∙ ap (λ t. fraction_text f ++ t) exponent.is_spelled))
          ∙ simp append_assoc;
    }

pub number-found : (rule : Exponents) (s : List ℕ) (x : Number) (rest : List ℕ)
    → read_number rule s ≡ Some (x, rest) → IsNumberFront rule s x rest
number-found rule s x rest e =
    bind_then (read_whole (read_sign s).1) _ _ e (λ whole is_whole more.
    bind_then (read_fraction whole.1) _ _ more (λ fraction is_fraction more.
    bind_then (read_exponent rule fraction.1) _ _ more (λ exponent is_exponent more.
    bind_then
    (scaled_number (pos (length fraction.0) -ℤ exponent.0)
    (signed_number (read_sign s).0 (digits_value 10 (whole.0 ++ fraction.0)))) _ _ more
    (λ n is_number end.
    let same = some_pair n x exponent.1 rest end in
    let read : read_exponent rule fraction.1 ≡ Some (exponent.0, rest) =
    is_exponent ∙ ap (λ t. Some (exponent.0, t)) same.1 in
    number_from rule s whole.0 fraction.0 whole.1 fraction.1 rest exponent.0 x
    (whole-found _ whole.0 whole.1 is_whole)
    (fraction-found whole.1 fraction.0 fraction.1 is_fraction)
    (exponent-found rule fraction.1 exponent.0 rest read) (is_number ∙ ap Some same.0)))))

-- ---- the converse

pub digit_is_no : (c k : ℕ) → is_ascii_digit c ≡ true → is_ascii_digit k ≡ false → (c == k) ≡ false
digit_is_no c k digit none = grind (arith, eqb-true)

pub first_of_whole : (d : ℕ) (ds : List ℕ) → is_whole (d ∷ ds) ≡ true → is_ascii_digit d ≡ true
first_of_whole d ds e = grind arith

sign-again : (b : Bool) (w s : List ℕ) → is_whole w ≡ true
    → read_sign (sign_text b ++ (w ++ s)) ≡ (b, w ++ s)
sign-again b w s e = grind (arith, digit_is_no, first_of_whole)

whole-again : (w s : List ℕ) → is_whole w ≡ true → front_digits s ≡ [] → after_digits s ≡ s
    → read_whole (w ++ s) ≡ Some (w, s)
whole-again w s e none same = grind (arith, front_digits-append, after_digits-append)

first_of_digits : (d : ℕ) (ds : List ℕ) → are_digits (d ∷ ds) ≡ true → is_ascii_digit d ≡ true
first_of_digits d ds e = grind arith

fraction-again : (ds s : List ℕ) → all_digits ds ≡ true → stops s ≡ true
    → read_fraction (fraction_text ds ++ s) ≡ Some (ds, s)
fraction-again ds s all ends =
    grind (arith, front_digits-append, front_digits-end, after_digits-append, after_digits-end)

no_digit_first : (ds s : List ℕ) → stops s ≡ true → (front_digits (fraction_text ds ++ s) ≡ [])
    × (after_digits (fraction_text ds ++ s) ≡ fraction_text ds ++ s)
no_digit_first ds s ends = grind (arith, front_digits-end, after_digits-end)

either_sign-again : (sign : Sign) (ds s : List ℕ) → are_digits ds ≡ true
    → read_either_sign (exponent_sign_text sign ++ (ds ++ s)) ≡ (is_minus sign, ds ++ s)
either_sign-again sign ds s e = grind (arith, digit_is_no, first_of_digits)

digits-again : (ds s : List ℕ) → are_digits ds ≡ true → stops s ≡ true
    → some_digits (ds ++ s) ≡ Some (ds, s)
digits-again ds s e ends =
    grind (arith, front_digits-append, front_digits-end, after_digits-append, after_digits-end)

exponent-again : (rule : Exponents) (x : Option Exponent) (s : List ℕ)
    → is_exponent rule x ≡ true → ends_number s ≡ true
    → read_exponent rule (exponent_text x ++ s) ≡ Some (exponent_value x, s)
exponent-again Forbidden None s e ends = refl
exponent-again Allowed None [] e ends = refl
exponent-again Allowed None (c ∷ s) e ends = grind (arith, and_true)
exponent-again Forbidden (Some x) s e ends = absurd (let h : ⊥ = cc in h)
exponent-again Allowed (Some x) s e ends =
    let proper = and_true (is_exponent_mark x.mark) (are_digits x.digits) e in
    let after = and_true (stops s) (no_mark s) ends in
    grind (
      arith,
      append_assoc,
      either_sign-again x.sign x.digits s proper.1,
      digits-again x.digits s proper.1 after.0,
    )

-- an exponent is no digit and no point
mark_stops : (c : ℕ) (s : List ℕ) → is_exponent_mark c ≡ true → stops (c ∷ s) ≡ true
mark_stops c s e = grind (arith, eqb-true)

exponent_stops : (rule : Exponents) (x : Option Exponent) (s : List ℕ)
    → is_exponent rule x ≡ true → stops s ≡ true → stops (exponent_text x ++ s) ≡ true
exponent_stops rule None s e ends = ends
exponent_stops Forbidden (Some x) s e ends = absurd (let h : ⊥ = cc in h)
exponent_stops Allowed (Some x) s e ends =
    mark_stops x.mark ((exponent_sign_text x.sign ++ x.digits) ++ s) (and_true _ _ e).0

number_steps : (rule : Exponents) (s : List ℕ) (b : Bool) (s1 w s2 f s3 : List ℕ) (z : ℤ)
    (s4 : List ℕ) (x : Number) → read_sign s ≡ (b, s1) → read_whole s1 ≡ Some (w, s2)
    → read_fraction s2 ≡ Some (f, s3) → read_exponent rule s3 ≡ Some (z, s4)
    → scaled_number (pos (length f) -ℤ z) (signed_number b (digits_value 10 (w ++ f))) ≡ Some x
    → read_number rule s ≡ Some (x, s4)
number_steps rule s b s1 w s2 f s3 z s4 x sign whole fraction exponent value = grind arith

pub number-again : (rule : Exponents) (n : Numeral) (x : Number) (rest : List ℕ)
    → numeral_meaning rule n ≡ Some x → ends_number rest ≡ true
    → read_number rule (numeral_text n ++ rest) ≡ Some (x, rest)
number-again rule n x rest meant ends =
    let proper = cond_some (is_numeral rule n) _ x meant in
    let parts = and_true (is_whole n.whole && all_digits n.fraction) (is_exponent rule n.exponent)
    proper.0 in
    let digits = and_true (is_whole n.whole) (all_digits n.fraction) parts.0 in
    let tail = exponent_text n.exponent ++ rest in
    let stop = exponent_stops rule n.exponent rest parts.1 (and_true _ _ ends).0 in
    let none = no_digit_first n.fraction tail stop in
    let after = fraction_text n.fraction ++ tail in
    let split : numeral_text n ++ rest ≡ sign_text n.is_negative ++ (n.whole ++ after) =
    simp append_assoc in
    number_steps rule (numeral_text n ++ rest) n.is_negative (n.whole ++ after) n.whole after
    n.fraction tail (exponent_value n.exponent) rest x
    (ap read_sign split ∙ sign-again n.is_negative n.whole after digits.0)
    (whole-again n.whole after digits.0 none.0 none.1)
    (fraction-again n.fraction tail digits.1 stop)
    (exponent-again rule n.exponent rest parts.1 ends) proper.1
