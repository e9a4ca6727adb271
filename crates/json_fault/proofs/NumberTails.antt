-- What completes a number of any size, for all that may be expected next in it.
use Rattle.std.proofs.Common.{◌≡◌, ℕ, ◌⊎◌, inl, inr, Bool, true, false, refl, sym, ap, ◌∙◌}
use Rattle.std.proofs.Common.{arith, List, [], ◌∷◌, ◌++◌, Option, Some, None, eqb-true}
use Rattle.std.specs.Prelude.{◌||◌, ◌==◌}
use Rattle.std.specs.Char.{is_digit}
use Rattle.jsonb_value.specs.declared.parser.number.Exponents.{Exponents}
use Rattle.jsonb_value.specs.declared.parser.number.Exponents.TheVariants.{Allowed}
use Rattle.jsonb_value.specs.Json.Characters.{plus, minus, point, zero_digit, all_digits}
use Rattle.jsonb_value.specs.Json.Characters.{is_exponent_mark}
use Rattle.jsonb_value.specs.Json.Numeral as json
use Rattle.jsonb_value.specs.Json.Numeral.{no_sign, plus_sign, minus_sign, sign_text}
use Rattle.jsonb_value.specs.Json.Numeral.{fraction_text, exponent_text, numeral_text, is_numeral}
use Rattle.jsonb_value.proofs.Json.Tests.{and_both, cond_some, chosen}
use Rattle.json_fault.specs.declared.number.Part.{Part}
use Rattle.json_fault.specs.declared.number.Part.TheVariants.{Sign, Zero, Whole, Point, Fraction}
use Rattle.json_fault.specs.declared.number.Numeral.{Numeral}
use Rattle.json_fault.specs.declared.exponent.Exponent.{Exponent}
use Rattle.json_fault.specs.declared.expected.Expected.{Expected}
use Rattle.json_fault.specs.declared.expected.Expected.TheVariants.{Value, FirstItem, Digits}
use Rattle.json_fault.specs.declared.expected.Expected.TheVariants.{ExponentSign}
use Rattle.json_fault.specs.declared.expected.Expected.TheVariants.{ExponentDigits}
use Rattle.json_fault.specs.Scan.{number_begun, part_continued, exponent_begun, exponent_continued}
use Rattle.json_fault.specs.Scan.{is_end, part_goes_on, goes_on}
use Rattle.json_fault.proofs.Endings.{NumberEnd, SignEnd, PointEnd}
use Rattle.json_fault.proofs.ExponentBack.{ascii_digit}
use Rattle.json_fault.proofs.NumberBack.{sign_back, number_back, number_ends, point_zero}
use Rattle.json_fault.proofs.NumberBack.{point_tail, digit_tail, digit_point, digit_digits}
use Rattle.json_fault.proofs.NumberGoes.{digit_is}

pub either_true : (a b : Bool) → (a || b) ≡ true → (a ≡ true) ⊎ (b ≡ true)
either_true a b e = grind arith

-- an exponent of any size, or nothing, whatever the magnitude and the scale
abbrev pub AnyExponent : ℕ → ℕ → List ℕ → Type 0
AnyExponent m k w =
    (x : Option json.Exponent) × ((json.is_exponent Allowed x ≡ true) × (w ≡ exponent_text x))

-- the rest of an exponent after its mark
pub record MarkTail (w : List ℕ) : Type 0 where
  pub sign : json.Sign
  pub digits : List ℕ
  pub are_digits : json.are_digits digits ≡ true
  pub is_spelled : w ≡ json.exponent_sign_text sign ++ digits

-- the rest of a number, where one is expected to go on
abbrev pub Tail : Expected → List ℕ → Type 0
Tail (Digits n) w = NumberEnd n.part n.magnitude n.scale AnyExponent w
Tail (ExponentSign n) w = MarkTail w
Tail (ExponentDigits x) w = all_digits w ≡ true
Tail _ w = ⊥

-- the characters of a number
abbrev pub Spelled : List ℕ → Type 0
Spelled s = (n : json.Numeral) × ((is_numeral Allowed n ≡ true) × (numeral_text n ≡ s))

pub spelled_of_sign : (b : Bool) (w : List ℕ) → SignEnd AnyExponent w → Spelled (sign_text b ++ w)
spelled_of_sign b w end = (
  record {
    is_negative = b;
    whole = end.whole;
    fraction = end.fraction;
    exponent = end.ends.0;
  },
  (
    and_both _ _ (and_both _ _ end.is_whole_part end.is_fraction) end.ends.1.0,
    ap (λ r. sign_text b ++ r) (sym (end.is_spelled
        ∙ ap (λ r. end.whole ++ (fraction_text end.fraction ++ r)) end.ends.1.1)),
  ),
)

-- ---- after a character completes it before, with the character in front

pub begun_tail : (n : Numeral) (c : ℕ) (w : List ℕ) → number_begun false c ≡ Some n
    → Tail (Digits n) w → Spelled (c ∷ w)
begun_tail n c w e tail =
    spelled_of_sign false (c ∷ w) (sign_back (λ b. AnyExponent) false n c w e tail)

pub digits_tail : (rule : Exponents) (n k : Numeral) (c : ℕ) (w : List ℕ)
    → part_continued rule n.part n c ≡ Some k → Tail (Digits k) w → Tail (Digits n) (c ∷ w)
digits_tail rule n k c w e tail =
    number_back (λ b. AnyExponent) rule n.is_negative n.part n.magnitude n.scale k c w e tail

pub mark_tail : (p : Part) (m k c : ℕ) (w : List ℕ) → is_end p ≡ true → is_exponent_mark c ≡ true
    → MarkTail w → NumberEnd p m k AnyExponent (c ∷ w)
mark_tail p m k c w end mark tail = number_ends AnyExponent p m k (c ∷ w) end (
  Some (record { mark = c; sign = tail.sign; digits = tail.digits }),
  (and_both _ _ mark tail.are_digits, ap (λ r. c ∷ r) tail.is_spelled),
)

digit_more : (c : ℕ) (w : List ℕ) → is_digit c 10 ≡ true → all_digits w ≡ true
    → all_digits (c ∷ w) ≡ true
digit_more c w digit all = and_both _ _ (ascii_digit c digit) all

pub sign_tail : (n : Numeral) (x : Exponent) (c d : ℕ) (w : List ℕ) → exponent_begun n c ≡ Some x
    → all_digits (d ∷ w) ≡ true → MarkTail (c ∷ d ∷ w)
sign_tail n x c d w e all = elim (chosen (c == plus) _ _ _ e) [
  | inl is ↦ record {
    sign = plus_sign;
    digits = d ∷ w;
    are_digits = all;
    is_spelled = ap (λ k. k ∷ d ∷ w) (eqb-true c plus is.0);
  }
  | inr other ↦ elim (chosen (c == minus) _ _ _ other.1) [
    | inl is ↦ record {
      sign = minus_sign;
      digits = d ∷ w;
      are_digits = all;
      is_spelled = ap (λ k. k ∷ d ∷ w) (eqb-true c minus is.0);
    }
    | inr other ↦ record {
      sign = no_sign;
      digits = c ∷ d ∷ w;
      are_digits = digit_more c (d ∷ w) (cond_some _ _ _ other.1).0 all;
      is_spelled = refl;
    }
  ]
]

pub power_tail : (x y : Exponent) (c : ℕ) (w : List ℕ) → exponent_continued x c ≡ Some y
    → all_digits w ≡ true → all_digits (c ∷ w) ≡ true
power_tail x y c w e all = digit_more c w (cond_some _ _ _ e).0 all

-- ---- there is one

zero_mark : MarkTail (zero_digit ∷ [])
zero_mark = record {
  sign = no_sign;
  digits = zero_digit ∷ [];
  are_digits = refl;
  is_spelled = refl;
}

nothing : AnyExponent 0 0 []
nothing = (None, (refl, refl))

one_digit : (c m k : ℕ) → is_digit c 10 ≡ true → PointEnd m k AnyExponent (c ∷ [])
one_digit c m k digit =
    digit_point AnyExponent m k c [] digit (number_ends AnyExponent Fraction _ _ [] refl nothing)

part_some : (p : Part) (m k : ℕ) → (d : ℕ) × ((w : List ℕ) × NumberEnd p m k AnyExponent (d ∷ w))
part_some Sign m k = (
  zero_digit,
  (
    [],
    record {
      whole = zero_digit ∷ [];
      fraction = [];
      is_whole_part = refl;
      is_fraction = refl;
      rest = [];
      is_spelled = refl;
      ends = nothing;
    },
  ),
)
part_some Zero m k = (101, (zero_digit ∷ [], mark_tail Zero m k 101 _ refl refl zero_mark))
part_some Whole m k = (101, (zero_digit ∷ [], mark_tail Whole m k 101 _ refl refl zero_mark))
part_some Point m k = (zero_digit, ([], one_digit zero_digit m k refl))
part_some Fraction m k = (101, (zero_digit ∷ [], mark_tail Fraction m k 101 _ refl refl zero_mark))

-- a number goes on with this character
mark_on : (p : Part) (m k c : ℕ) → is_end p ≡ true → is_exponent_mark c ≡ true
    → (w : List ℕ) × NumberEnd p m k AnyExponent (c ∷ w)
mark_on p m k c end mark = (zero_digit ∷ [], mark_tail p m k c _ end mark zero_mark)

part_on : (p : Part) (m k c : ℕ) → part_goes_on p c ≡ true
    → (w : List ℕ) × NumberEnd p m k AnyExponent (c ∷ w)
part_on Sign m k c e = (
  [],
  record {
    whole = c ∷ [];
    fraction = [];
    is_whole_part = e;
    is_fraction = refl;
    rest = [];
    is_spelled = refl;
    ends = nothing;
  },
)
part_on Zero m k c e = elim (either_true _ _ e) [
  | inl is ↦ (
    zero_digit ∷ [],
    point_zero AnyExponent m k c _ (eqb-true c point is) (one_digit zero_digit m k refl),
  )
  | inr mark ↦ mark_on Zero m k c refl mark
]
part_on Whole m k c e = elim (either_true _ _ e) [
  | inl first ↦ elim (either_true _ _ first) [
    | inl digit ↦ (
      [],
      digit_tail AnyExponent m k c [] (digit_is c digit)
          (number_ends AnyExponent Whole _ _ [] refl nothing),
    )
    | inr is ↦ (
      zero_digit ∷ [],
      point_tail AnyExponent m k c _ (eqb-true c point is) (one_digit zero_digit m k refl),
    )
  ]
  | inr mark ↦ mark_on Whole m k c refl mark
]
part_on Point m k c e = ([], one_digit c m k (digit_is c e))
part_on Fraction m k c e = elim (either_true _ _ e) [
  | inl digit ↦ (
    [],
    digit_digits AnyExponent m k c [] (digit_is c digit)
        (number_ends AnyExponent Fraction _ _ [] refl nothing),
  )
  | inr mark ↦ mark_on Fraction m k c refl mark
]

pub tail_on : (e : Expected) (c : ℕ) → goes_on e c ≡ true → (w : List ℕ) × Tail e (c ∷ w)
tail_on (Digits n) c e = part_on n.part n.magnitude n.scale c e
tail_on (ExponentDigits x) c e = ([], and_both _ _ e refl)
tail_on _ c e = absurd (let h : ⊥ = cc in h)

-- what completes a number where one is expected to go on
pub digits_some : (n : Numeral) → (d : ℕ) × ((w : List ℕ) × Tail (Digits n) (d ∷ w))
digits_some n = part_some n.part n.magnitude n.scale

pub sign_some : (n : Numeral) → (d : ℕ) × ((w : List ℕ) × Tail (ExponentSign n) (d ∷ w))
sign_some n = (zero_digit, ([], zero_mark))

pub power_some : (x : Exponent) → (d : ℕ) × ((w : List ℕ) × Tail (ExponentDigits x) (d ∷ w))
power_some x = (zero_digit, ([], refl))

-- A value is expected, so that a number may begin.
abbrev pub is_first : Expected → Bool
is_first Value = true
is_first FirstItem = true
is_first _ = false
