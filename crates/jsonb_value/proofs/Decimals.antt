-- The digits of a decimal are those of its magnitude, split in two or padded with zeros.
use Rattle.std.proofs.Common.{◌≡◌, ℕ, zero, suc, ◌+◌, ◌-◌, ◌/◌, ◌%◌, ◌^◌, ◌<◌, ◌≤◌, List, [], ◌∷◌}
use Rattle.std.proofs.Common.{◌++◌, length, take, drop, refl, sym, ap, ◌∙◌, inl, inr, arith}
use Rattle.std.proofs.Common.{append_assoc, append-nil, length-append, decimal, codes, max}
use Rattle.std.proofs.Math.Seq.{take-append_seam, drop-append_seam}
use Rattle.std.proofs.lemmas.Bool.{cases_lt}
use Rattle.std.proofs.lemmas.Fmt.{decimal_digit, decimal_step_wide}
use Rattle.std.specs.List.{repeat}
use Rattle.jsonb_value.specs.Text.{front_of, last_digits, point_text}

pub length-last_digits : (s m : ℕ) → length (last_digits s m) ≡ s
length-last_digits zero m = refl
length-last_digits (suc s) m = grind (arith, length-append, length-last_digits s (m / 10))

some_digit : (m : ℕ) → m < 10 ^ 64 → 0 < length (decimal m)
some_digit m small = grind (arith, cases_lt, decimal_digit, decimal_step_wide, length-append)

-- if there are more digits than the scale
digits_in_two : (s m : ℕ) → m < 10 ^ 64 → s < length (decimal m)
    → decimal m ≡ decimal (front_of s m) ++ last_digits s m
digits_in_two zero m small long = sym (append-nil (decimal m))
digits_in_two (suc s) m small long =
    elim (cases_lt m 10) [
      | inl below ↦ absurd (omega (arith, ap length (decimal_digit m below)))
      | inr above ↦
          let step = decimal_step_wide m above small in
          let long_still : s
          < length (decimal (m / 10)) = omega
          (arith, ap length step, length-append (decimal (m / 10)) ((48 + m % 10) ∷ [])) in
          step
          ∙ ap (λ (l : List ℕ). l ++ (48 + m % 10) ∷ [])
          (digits_in_two s (m / 10) (omega arith) long_still)
          ∙ append_assoc (decimal (front_of s (m / 10))) (last_digits s (m / 10))
          ((48 + m % 10) ∷ [])
    ]

pub pointed-long : (s m : ℕ) → m < 10 ^ 64 → s < length (decimal m)
    → take (length (decimal m) - s) (decimal m)
    ++ (codes "." ++ drop (length (decimal m) - s) (decimal m)) ≡ point_text s m
pointed-long s m small long =
    let whole = digits_in_two s m small long in
    let front = decimal (front_of s m) in
    let back = last_digits s m in
    let at : length (decimal m) - s ≡ length front =
    omega (arith, ap length whole, length-append front back, length-last_digits s m) in
    let first : take (length (decimal m) - s) (decimal m) ≡ front =
    rw at (ap (take (length front)) whole ∙ take-append_seam front back) in
    let last : drop (length (decimal m) - s) (decimal m) ≡ back =
    rw at (ap (drop (length front)) whole ∙ drop-append_seam front back) in
    rw (first, last) refl

repeat-next : (n : ℕ) (xs : List ℕ) → repeat n xs ++ xs ≡ xs ++ repeat n xs
repeat-next zero xs = sym (append-nil xs)
repeat-next (suc n) xs = grind (arith, append_assoc, repeat-next n xs)

front_of-zero : (s : ℕ) → front_of s 0 ≡ 0
front_of-zero zero = refl
front_of-zero (suc s) = front_of-zero s

last_digits-zero : (s : ℕ) → last_digits s 0 ≡ repeat s (codes "0")
last_digits-zero zero = refl
last_digits-zero (suc s) = grind (arith, repeat-next, last_digits-zero s)

record IsBehindZeros (s m : ℕ) : Type 0 where
  front : front_of s m ≡ 0
  digits : repeat (s - length (decimal m)) (codes "0") ++ decimal m ≡ last_digits s m

-- if there are no more digits than the scale
after_zeros : (s m : ℕ) → m < 10 ^ 64 → length (decimal m) ≤ s → IsBehindZeros s m
after_zeros zero m small short = grind (arith, some_digit)
after_zeros (suc s) m small short =
    elim (cases_lt m 10) [
      | inl below ↦
          let digit = decimal_digit m below in
          let none : m / 10 ≡ 0 = omega arith in
          let same : m % 10 ≡ m = omega arith in
          let left : suc s - length (decimal m) ≡ s = omega (arith, ap length digit) in
          record {
            front = ap (front_of s) none ∙ front_of-zero s;
            digits = rw (left, digit, none, same, last_digits-zero s) refl;
          }
      | inr above ↦
          let step = decimal_step_wide m above small in
          let more = length-append (decimal (m / 10)) ((48 + m % 10) ∷ []) in
          let front = after_zeros s (m / 10) (omega arith) (omega (arith, ap length step, more)) in
          let left : suc s - length (decimal m) ≡ s - length (decimal (m / 10)) =
          omega (arith, ap length step, more) in
          record {
            front = front.front;
            digits =
                rw (left, step)
                (sym (append_assoc (repeat (s - length (decimal (m / 10))) (codes "0"))
                (decimal (m / 10)) ((48 + m % 10) ∷ []))
                ∙ ap (λ (l : List ℕ). l ++ (48 + m % 10) ∷ []) front.digits);
          }
    ]

pub pointed-short : (s m : ℕ) → m < 10 ^ 64 → length (decimal m) ≤ s
    → codes "0." ++ (repeat (s - length (decimal m)) (codes "0") ++ decimal m) ≡ point_text s m
pointed-short s m small short =
    grind (arith, after_zeros, decimal_digit)

-- a point, and the digits with at least one before it
pub length-point_text : (s m : ℕ) → m < 10 ^ 64
    → length (point_text s m) ≡ max (length (decimal m)) (s + 1) + 1
length-point_text s m small =
    let front = decimal (front_of s m) in
    let back = last_digits s m in
    let parts = length-append front (codes "." ++ back) in
    let many = length-last_digits s m in
    elim (cases_lt s (length (decimal m))) [
      | inl long ↦
          omega (
            arith,
            parts,
            many,
            length-append front back,
            ap length (digits_in_two s m small long),
          )
      | inr short ↦
          let none = ap (λ n. length (decimal n)) (after_zeros s m small short).front in
          omega (arith, parts, many, none, ap length (decimal_digit 0 (omega arith)))
    ]
