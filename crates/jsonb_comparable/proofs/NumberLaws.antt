-- The keys of numbers compare as the numbers.
use Rattle.std.proofs.Common.{◌≡◌, ℕ, zero, suc, ◌<◌, ◌≤◌, ◌-◌, ◌+◌, ◌*◌, ◌^◌, List, [], ◌∷◌}
use Rattle.std.proofs.Common.{◌++◌, refl, arith, sym, inl, inr, ap, ap₂, ◌∙◌, pow-add}
use Rattle.std.specs.Prelude.{ℤ, pos, negsuc, ◌*ℤ◌, FitsSigned, nat_lt, true, false}
use Rattle.std.proofs.Math.Nat.{one-le-pow, pow-le-pow_right, lt_of_le_of_lt}
use Rattle.std.proofs.lemmas.Nat.{mul-le}
use Rattle.std.proofs.Common.{lit<}
use Rattle.std.proofs.Math.IntN.{neg_ℤ}
use Rattle.std.specs.Int.{w64, w128}
use Rattle.std.proofs.lemmas.Bool.{cases_lt, lt-ltb, le-ltb}
use Rattle.std.proofs.lemmas.Bool.Decides.{nat_tests}
use Rattle.std.proofs.lemmas.Int.{ints}
use Rattle.std.specs.Ordering.{nat_cmp, int_cmp, ordering_reverse}
use Rattle.jsonb_value.specs.declared.number.Number.{Number}
use Rattle.jsonb_value.specs.declared.number.Number.TheVariants.{Int64, UInt64, Decimal64}
use Rattle.jsonb_value.specs.declared.number.Number.TheVariants.{Decimal128}
use Rattle.jsonb_value.specs.Fraction.{Fraction, fraction_cmp}
use Rattle.jsonb_value.specs.Order.{fraction_of, number_cmp}
use Rattle.jsonb_value.specs.WellFormed.{IsNumber}
use Rattle.jsonb_value.proofs.Scaling.{*ℤ-pos-pos, int_cmp-scaled}
use Rattle.jsonb_comparable.specs.NumberKey.{count_bytes, digit_pairs, key_of_pairs, natural_key}
use Rattle.jsonb_comparable.specs.NumberKey.{integer_key, scaled_value, number_key}
use Rattle.jsonb_comparable.proofs.Comparing.{Compared, below, above, by_equation}
use Rattle.jsonb_comparable.proofs.Comparing.{AreSmall, compared_complemented}
use Rattle.jsonb_comparable.proofs.DigitLaws.{key_of_pairs_decides, key_of_pairs_small}

-- The key of a natural number begins with a byte from 128 to 149.
pub record BeginsFrom (least : ℕ) (key : List ℕ) : Type 0 where
  pub first : ℕ
  pub others : List ℕ
  pub is : key ≡ first ∷ others
  pub at_least : least ≤ first
  pub at_most : first < 150

count_begins : (k : ℕ) (b : List ℕ) → k < 149 → BeginsFrom 128 (count_bytes k ++ b)
count_begins k b h =
    elim (cases_lt k 129) [
      | inl l ↦ let low : nat_lt k 129 ≡ true = lt-ltb k 129 l in
          record {
            first = 129;
            others = k ∷ b;
            is = rw low refl;
            at_least = omega arith;
            at_most = omega arith;
          }
      | inr g ↦ let high : nat_lt k 129 ≡ false = le-ltb k 129 g in
          record {
            first = k + 1;
            others = b;
            is = rw high refl;
            at_least = omega arith;
            at_most
                = omega arith;
          }
    ]

key_of_pairs_begins : (k n : ℕ) → k < 149 → BeginsFrom 128 (key_of_pairs k n)
unfolding key_of_pairs
key_of_pairs_begins zero n b =
    record { first = 128; others = []; is = refl; at_least = omega arith; at_most = omega arith }
key_of_pairs_begins (suc k) n b =
    elim (cases_lt n (100 ^ k)) [
      | inl l ↦ let low : nat_lt n (100 ^ k) ≡ true = lt-ltb n (100 ^ k) l in
          rw low (key_of_pairs_begins k n (omega arith))
      | inr g ↦ let high : nat_lt n (100 ^ k) ≡ false = le-ltb n (100 ^ k) g in
          rw high (count_begins (suc k) (digit_pairs k n) b)
    ]

-- A whole number whose key has its digits.
abbrev pub IsWithin : ℤ → Type 0
IsWithin (pos n) = n < 100 ^ 148
IsWithin (negsuc n) = suc n < 100 ^ 148

natural_key_decides : (m n : ℕ) → m < 100 ^ 148 → n < 100 ^ 148
    → Compared (natural_key m) (natural_key n) (nat_cmp m n)
unfolding natural_key
natural_key_decides m n h g = key_of_pairs_decides 148 m n h g

natural_key_small : (n : ℕ) → n < 100 ^ 148 → AreSmall (natural_key n)
unfolding natural_key
natural_key_small n h = key_of_pairs_small 148 n (omega arith) h

pub natural_key_begins : (n : ℕ) → BeginsFrom 128 (natural_key n)
unfolding natural_key
natural_key_begins n = key_of_pairs_begins 148 n (omega arith)

cmp_positive : (m n : ℕ) → nat_cmp m n ≡ int_cmp (pos m) (pos n)
cmp_positive m n = grind (arith, nat_tests, ints)

cmp_negative : (m n : ℕ)
    → ordering_reverse (nat_cmp (suc m) (suc n)) ≡ int_cmp (negsuc m) (negsuc n)
cmp_negative m n = grind (arith, nat_tests, ints)

pub integer_key_decides : (i j : ℤ) → IsWithin i → IsWithin j
    → Compared (integer_key i) (integer_key j) (int_cmp i j)
integer_key_decides (pos m) (pos n) h g =
    by_equation (natural_key_decides m n h g) (cmp_positive m n)
integer_key_decides (negsuc m) (negsuc n) h g =
    by_equation
    (compared_complemented (natural_key_decides (suc m) (suc n) h g) (natural_key_small (suc m) h)
    (natural_key_small (suc n) g))
    (cmp_negative m n)
integer_key_decides (pos m) (negsuc n) h g =
    let left = natural_key_begins m in
    let right = natural_key_begins (suc n) in
    rw (left.is, right.is) (above {x = left.first} {y = 255 - right.first} (omega arith))
integer_key_decides (negsuc m) (pos n) h g =
    let left = natural_key_begins (suc m) in
    let right = natural_key_begins n in
    rw (left.is, right.is) (below {x = 255 - left.first} {y = right.first} (omega arith))

-- Fractions compare as whole numbers over one denominator.
over_one : (v w : ℤ) (s t a b d : ℕ) → s + a ≡ d → t + b ≡ d
    → int_cmp (v *ℤ pos (10 ^ a)) (w *ℤ pos (10 ^ b))
    ≡ int_cmp (v *ℤ pos (10 ^ t)) (w *ℤ pos (10 ^ s))
over_one v w s t a b d e f =
    let p : 0 < 10 ^ (s + t) = one-le-pow (s + t) 10 (omega arith) in
    let q : 0 < 10 ^ d = one-le-pow d 10 (omega arith) in
    let left : 10 ^ a * 10 ^ (s + t) ≡ 10 ^ t * 10 ^ d =
    sym (pow-add 10 a (s + t)) ∙ ap (λ n. 10 ^ n) (omega arith) ∙ pow-add 10 t d in
    let right : 10 ^ b * 10 ^ (s + t) ≡ 10 ^ s * 10 ^ d =
    sym (pow-add 10 b (s + t)) ∙ ap (λ n. 10 ^ n) (omega arith) ∙ pow-add 10 s d in
    sym (int_cmp-scaled (v *ℤ pos (10 ^ a)) (w *ℤ pos (10 ^ b)) (10 ^ (s + t)) p)
    ∙ ap₂ int_cmp
    (*ℤ-pos-pos v (10 ^ a) (10 ^ (s + t)) ∙ ap (λ n. v *ℤ pos n) left
    ∙ sym (*ℤ-pos-pos v (10 ^ t) (10 ^ d)))
    (*ℤ-pos-pos w (10 ^ b) (10 ^ (s + t)) ∙ ap (λ n. w *ℤ pos n) right
    ∙ sym (*ℤ-pos-pos w (10 ^ s) (10 ^ d)))
    ∙ int_cmp-scaled (v *ℤ pos (10 ^ t)) (w *ℤ pos (10 ^ s)) (10 ^ d) q

pub scaled_cmp : (x y : Fraction) → x.scale < 256 → y.scale < 256
    → int_cmp (scaled_value x) (scaled_value y) ≡ fraction_cmp x y
unfolding scaled_value
scaled_cmp x y h g =
    over_one x.value y.value x.scale y.scale (256 - x.scale) (256 - y.scale) 256 (omega arith)
    (omega arith)

-- A number's whole number is within the bound.
within_positive : (n p : ℕ) → n ≤ 2 ^ 127 → p ≤ 10 ^ 256 → n * p < 100 ^ 148
within_positive n p h g =
    lt_of_le_of_lt (mul-le n p (2 ^ 127) (10 ^ 256) h g) (lit< tt)

within_negated : (k : ℕ) → k < 100 ^ 148 → IsWithin (neg_ℤ (pos k))
within_negated zero h = h
within_negated (suc k) h = h

-- no larger than 2 ^ 127
abbrev IsSized : ℤ → Type 0
IsSized (pos n) = n ≤ 2 ^ 127
IsSized (negsuc n) = suc n ≤ 2 ^ 127

within_scaled : (v : ℤ) (p : ℕ) → IsSized v → p ≤ 10 ^ 256 → IsWithin (v *ℤ pos p)
within_scaled (pos n) p h g = within_positive n p h g
within_scaled (negsuc n) p h g = within_negated (suc n * p) (within_positive (suc n) p h g)

sized_64 : (v : ℤ) → FitsSigned w64 v → IsSized v
sized_64 (pos n) h = let small : n < 2 ^ 63 = h.sfits in omega arith
sized_64 (negsuc n) h = let small : n < 2 ^ 63 = h.sfits in omega arith

sized_128 : (v : ℤ) → FitsSigned w128 v → IsSized v
sized_128 (pos n) h = let small : n < 2 ^ 127 = h.sfits in omega arith
sized_128 (negsuc n) h = let small : n < 2 ^ 127 = h.sfits in omega arith

scale_at_most : (s : ℕ) → 10 ^ (256 - s) ≤ 10 ^ 256
scale_at_most s = pow-le-pow_right (omega arith) {i = 256 - s} {j = 256} (omega arith)

pub number_within : (x : Number) → IsNumber x → IsWithin (scaled_value (fraction_of x))
unfolding scaled_value
number_within (Int64 v) h = within_scaled v (10 ^ (256 - 0)) (sized_64 v h) (scale_at_most 0)
number_within (UInt64 n) h = within_scaled (pos n) (10 ^ (256 - 0)) (omega arith) (scale_at_most 0)
number_within (Decimal64 d) h =
    within_scaled d.value (10 ^ (256 - d.scale)) (sized_64 d.value h.0)
    (scale_at_most d.scale)
number_within (Decimal128 d) h =
    within_scaled d.value (10 ^ (256 - d.scale)) (sized_128 d.value h.0)
    (scale_at_most d.scale)

scale_below : (x : Number) → IsNumber x → (fraction_of x).scale < 256
scale_below (Int64 v) h = omega arith
scale_below (UInt64 n) h = omega arith
scale_below (Decimal64 d) h = h.1
scale_below (Decimal128 d) h = h.1

-- The keys of numbers have the order of the numbers.
pub number_key_decides : (x y : Number) → IsNumber x → IsNumber y
    → Compared (number_key x) (number_key y) (number_cmp x y)
number_key_decides x y h g =
    by_equation
    (integer_key_decides (scaled_value (fraction_of x)) (scaled_value (fraction_of y))
    (number_within x h)
    (number_within y g))
    (scaled_cmp (fraction_of x) (fraction_of y) (scale_below x h) (scale_below y g))
