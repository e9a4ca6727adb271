-- The key of a number by its digits.
use Rattle.std.proofs.Common.{◌≡◌, ℕ, zero, suc, ◌<◌, ◌≤◌, ◌-◌, ◌+◌, ◌*◌, ◌/◌, ◌%◌, ◌^◌, List, []}
use Rattle.std.proofs.Common.{◌∷◌}
use Rattle.std.proofs.Common.{◌++◌, refl, arith, sym, ap, ap₂, ◌∙◌, inl, inr, pow-add}
use Rattle.std.proofs.Math.IntN.{neg_ℤ, nat_abs}
use Rattle.std.proofs.lemmas.Int.{ints}
use Rattle.std.specs.Prelude.{ℤ, pos, negsuc, ◌*ℤ◌, ◌<ℤ◌, ◌≤ℤ◌}
use Rattle.std.specs.Prelude.{Bool, nat_lt, true, false}
use Rattle.std.proofs.Math.Nat.{one-le-pow, pow-suc, mod-lt, div-add-mod', mul-le-mul_right}
use Rattle.std.proofs.Math.Nat.{mul-lt-mul_of_pos_right, mul-pos}
use Rattle.std.proofs.Math.Nat.{pow-le-pow_right, mul_assoc, mul_comm}
use Rattle.std.proofs.lemmas.List.{map-append}
use Rattle.std.proofs.lemmas.Nat.{div-mul-add, mod-mul-add}
use Rattle.std.proofs.lemmas.Bool.{cases_order, lt-ltb, le-ltb}
use Rattle.jsonb_comparable.specs.NumberKey.{pair_bytes, digit_pairs, count_bytes, key_of_pairs}
use Rattle.jsonb_comparable.specs.NumberKey.{natural_key, integer_key, decimal_key, complemented}
use Rattle.jsonb_comparable.specs.NumberKey.{scaled_value}
use Rattle.jsonb_comparable.specs.SplitDigits.{split_pairs, signed}

-- Whether the rest is 0 does not depend on zeros after it.
pair_bytes_scaled : (q x p : ℕ) (a : List ℕ) → 0 < p → pair_bytes q (x * p) a ≡ pair_bytes q x a
pair_bytes_scaled q zero p a h = let none : zero * p ≡ zero = omega arith in rw none refl
pair_bytes_scaled q (suc x) zero a h = absurd (omega arith)
pair_bytes_scaled q (suc x) (suc p) a h =
    let some : suc x * suc p ≡ suc (x * suc p + p) = omega arith in rw some refl

power_above_zero : (k : ℕ) → 0 < 100 ^ k
power_above_zero k = one-le-pow k 100 (omega arith)

-- the last pair, and zeros
last_pair : (j low : ℕ) → digit_pairs j (low * 100 ^ j) ≡ (2 * low) ∷ []
unfolding digit_pairs
last_pair zero low = ap (λ n. (2 * n) ∷ []) (omega arith)
last_pair (suc j) low =
    let d = 100 ^ suc j in
    let p : 0 < d = power_above_zero (suc j) in
    let whole : low * d ≡ low * d + 0 = omega arith in
    let quotient : low * d / d ≡ low = ap (λ n. n / d) whole ∙ div-mul-add low d 0 p in
    let left : low * d % d ≡ 0 = ap (λ n. n % d) whole ∙ mod-mul-add low d 0 p in
    rw (quotient, left) refl

-- The first pair of a number, what is left of it, and zeros.
weight_is : (m j : ℕ) → 100 ^ suc (m + j) ≡ 100 ^ m * 100 * 100 ^ j
weight_is m j =
    rw (pow-suc 100 (m + j), pow-add 100 m j)
    (mul_assoc (100 ^ m) (100 ^ j) 100 ∙ ap (λ n. 100 ^ m * n) (mul_comm (100 ^ j) 100)
    ∙ sym (mul_assoc (100 ^ m) 100 (100 ^ j)))

cut_is : (high q c r low z : ℕ) → high ≡ q * c + r
    → (high * 100 + low) * z ≡ q * (c * 100 * z) + (r * 100 + low) * z
cut_is high q c r low z e = rw e (omega arith)

rest_below : (c r low z : ℕ) → r < c → low < 100 → 0 < z → (r * 100 + low) * z < c * 100 * z
rest_below c r low z h l p = mul-lt-mul_of_pos_right {m = r * 100 + low} {n = c * 100} {k = z}
    (omega arith) p

-- Digits of a number and zeros are those of the number.
pub split_pairs_is : (m j high low : ℕ) → high < 100 ^ m → low < 100
    → digit_pairs (m + j) ((high * 100 + low) * 100 ^ j) ≡ split_pairs m high low
unfolding digit_pairs split_pairs
split_pairs_is zero j high low h l =
    let none : high ≡ 0 = omega arith in
    let start : zero + j ≡ j = omega arith in
    let number : (high * 100 + low) * 100 ^ j ≡ low * 100 ^ j =
    ap (λ n. n * 100 ^ j) (omega (arith, none)) in
    ap₂ digit_pairs start number ∙ last_pair j low
split_pairs_is (suc m) j high low h l =
    let c = 100 ^ m in
    let q = high / c in
    let r = high % c in
    let d = 100 ^ suc (m + j) in
    let rest = (r * 100 + low) * 100 ^ j in
    let p : 0 < c = power_above_zero m in
    let small : r < c = mod-lt high p in
    let weight : d ≡ c * 100 * 100 ^ j = weight_is m j in
    let value : (high * 100 + low) * 100 ^ j ≡ q * d + rest =
    cut_is high q c r low (100 ^ j) (sym (div-add-mod' high c)) ∙ ap (λ n. q * n + rest)
    (sym weight) in
    let room : rest < d = rw weight (rest_below c r low (100 ^ j) small l (power_above_zero j)) in
    let quotient : (high * 100 + low) * 100 ^ j / d ≡ q =
    ap (λ n. n / d) value ∙ div-mul-add q d rest room in
    let left : (high * 100 + low) * 100 ^ j % d ≡ rest =
    ap (λ n. n % d) value ∙ mod-mul-add q d rest room in
    let count : suc m + j ≡ suc (m + j) = omega arith in
    rw (count, quotient, left, split_pairs_is m j r low small l)
    (pair_bytes_scaled q (r * 100 + low) (100 ^ j) (split_pairs m r low) (power_above_zero j))

-- A number of e pairs has the key of its pairs.
key_of_pairs_at : (k e n : ℕ) → e < k → 100 ^ e ≤ n → n < 100 ^ suc e
    → key_of_pairs k n ≡ count_bytes (suc e) ++ digit_pairs e n
unfolding key_of_pairs
key_of_pairs_at zero e n h least most = absurd (omega arith)
key_of_pairs_at (suc k) e n h least most =
    elim (cases_order e k) [
      | inl x ↦
          let high : nat_lt n (100 ^ k) ≡ false = le-ltb n (100 ^ k) (rw (← x) least) in
          rw (high, ← x) refl
      | inr y ↦ elim y [
        | inl x ↦
            let up : 100 ^ suc e ≤ 100 ^ k = pow-le-pow_right {n = 100} (omega arith)
            {i = suc e} {j = k} x in
            let low : nat_lt n (100 ^ k) ≡ true = lt-ltb n (100 ^ k) (omega arith) in
            rw low (key_of_pairs_at k e n x least most)
        | inr x ↦ absurd (omega arith)
      ]
    ]

-- how large the number is
at_most : (pairs z high low : ℕ) → high < 100 ^ pairs → low < 100
    → (high * 100 + low) * 100 ^ z < 100 ^ suc (pairs + z)
at_most pairs z high low h l =
    rw (weight_is pairs z) (rest_below (100 ^ pairs) high low (100 ^ z) h l (power_above_zero z))

at_least : (pairs z high low : ℕ) → (0 < pairs → 100 ^ (pairs - 1) ≤ high) → 0 < high * 100 + low
    → 100 ^ (pairs + z) ≤ (high * 100 + low) * 100 ^ z
at_least zero z high low least some =
    let start : zero + z ≡ z = omega arith in
    let single : 1 * 100 ^ z ≤ (high * 100 + low) * 100 ^ z = mul-le-mul_right (100 ^ z) some in
    rw start (omega arith)
at_least (suc pairs) z high low least some =
    let one_less : suc pairs - 1 ≡ pairs = omega arith in
    let top : 100 ^ pairs ≤ high = rw one_less at (least (omega arith)) in
    let whole : 100 ^ suc pairs ≤ high * 100 + low = omega (arith, top, pow-suc 100 pairs) in
    rw (pow-add 100 (suc pairs) z) (mul-le-mul_right (100 ^ z) whole)

-- The key of a number that is split into its last pair, all before it, and zeros.
pub natural_key_split : (pairs zeros high low : ℕ) → high < 100 ^ pairs → low < 100
    → (0 < pairs → 100 ^ (pairs - 1) ≤ high) → 0 < high * 100 + low → pairs + zeros < 148
    → natural_key ((high * 100 + low) * 100 ^ zeros)
    ≡ count_bytes (pairs + zeros + 1) ++ split_pairs pairs high low
unfolding natural_key
natural_key_split pairs zeros high low h l least some room =
    let n = (high * 100 + low) * 100 ^ zeros in
    let e = pairs + zeros in
    let one_more : pairs + zeros + 1 ≡ suc (pairs + zeros) = omega arith in
    key_of_pairs_at 148 e n room (at_least pairs zeros high low least some)
    (at_most pairs zeros high low h l)
    ∙ ap₂ (λ count digits. count_bytes count ++ digits) (sym one_more)
    (split_pairs_is pairs zeros high low h l)

-- The first of the digits that are left: the last that is not 0,
split_first : (left high low : ℕ) → 0 < left
    → split_pairs left high low
    ≡ pair_bytes (high / 100 ^ (left - 1)) (high % 100 ^ (left - 1) * 100 + low)
    (split_pairs (left - 1) (high % 100 ^ (left - 1)) low)
unfolding split_pairs
split_first zero high low h = absurd (omega arith)
split_first (suc k) high low h = let one_less : suc k - 1 ≡ k = omega arith in rw one_less refl

pair_last : (q x : ℕ) (a : List ℕ) → x ≡ 0 → pair_bytes q x a ≡ (2 * q) ∷ []
pair_last q zero a h = refl
pair_last q (suc x) a h = absurd (omega arith)

pair_more : (q x : ℕ) (a : List ℕ) → 0 < x → pair_bytes q x a ≡ (2 * q + 1) ∷ a
pair_more q zero a h = absurd (omega arith)
pair_more q (suc x) a h = refl

pub last_digits : (left high low power : ℕ) → 0 < left → power ≡ 100 ^ (left - 1)
    → high % power ≡ 0 → low ≡ 0 → split_pairs left high low ≡ (2 * (high / power)) ∷ []
last_digits left high low power h e none zero_low =
    rw e (split_first left high low h ∙ pair_last (high / 100 ^ (left - 1)) _ _
    (let none_left : high % 100 ^ (left - 1) ≡ 0 = rw e at none in omega arith))

some_left : (r low : ℕ) → (r ≡ 0 → low ≡ 0 → ⊥) → 0 < r * 100 + low
some_left zero zero some = absurd (some refl refl)
some_left zero (suc low) some = omega arith
some_left (suc r) low some = omega arith

-- or one that others follow
pub more_digits : (left high low power : ℕ) → 0 < left → power ≡ 100 ^ (left - 1)
    → (high % power ≡ 0 → low ≡ 0 → ⊥)
    → split_pairs left high low
    ≡ (2 * (high / power) + 1) ∷ split_pairs (left - 1) (high % power) low
more_digits left high low power h e some =
    rw e (split_first left high low h ∙ pair_more (high / 100 ^ (left - 1)) _ _
    (some_left (high % 100 ^ (left - 1)) low (rw e at some)))

-- and at the end the last pair.
pub no_digits : (left high low : ℕ) → left ≡ 0 → split_pairs left high low ≡ (2 * low) ∷ []
unfolding split_pairs
no_digits zero high low h = refl
no_digits (suc left) high low h = absurd (omega arith)

pub signed_first : (negative : Bool) (b : ℕ) (bs : List ℕ)
    → signed negative (b ∷ bs) ≡ signed negative (b ∷ []) ++ signed negative bs
signed_first true b bs = refl
signed_first false b bs = refl

pub signed_append : (negative : Bool) (a b : List ℕ)
    → signed negative (a ++ b) ≡ signed negative a ++ signed negative b
signed_append true a b = map-append (λ x. 255 - x) a b
signed_append false a b = refl

-- The key of a number that is not 0: the count of its pairs, and then the pairs.
pub key_parts : (negative : Bool) (pairs zeros high low : ℕ) → high < 100 ^ pairs → low < 100
    → (0 < pairs → 100 ^ (pairs - 1) ≤ high) → 0 < high * 100 + low → pairs + zeros < 148
    → signed negative (natural_key ((high * 100 + low) * 100 ^ zeros))
    ≡ signed negative (count_bytes (pairs + zeros + 1))
    ++ signed negative (split_pairs pairs high low)
key_parts negative pairs zeros high low h l least some room =
    ap (signed negative) (natural_key_split pairs zeros high low h l least some room)
    ∙ signed_append negative (count_bytes (pairs + zeros + 1)) (split_pairs pairs high low)

-- The key of zero is one byte.
key_of_pairs_zero : (k : ℕ) → key_of_pairs k 0 ≡ 128 ∷ []
unfolding key_of_pairs
key_of_pairs_zero zero = refl
key_of_pairs_zero (suc k) =
    let low : nat_lt 0 (100 ^ k) ≡ true = lt-ltb 0 (100 ^ k) (power_above_zero k) in
    rw low (key_of_pairs_zero k)

pub natural_key_zero : (n : ℕ) → n ≡ 0 → natural_key n ≡ 128 ∷ []
unfolding natural_key
natural_key_zero n e = rw e (key_of_pairs_zero 148)

pub no_value : (high low z : ℕ) → high ≡ 0 → low ≡ 0 → (high * 100 + low) * 100 ^ z ≡ 0
no_value high low z h l = rw (h, l) (omega arith)

-- The key of a decimal by its sign and size.
negated_key : (k : ℕ) → 0 < k → integer_key (neg_ℤ (pos k)) ≡ complemented (natural_key k)
negated_key zero h = absurd (omega arith)
negated_key (suc k) h = refl

key_below_zero : (v : ℤ) (p : ℕ) → 0 < p → v <ℤ pos 0
    → integer_key (v *ℤ pos p) ≡ complemented (natural_key (nat_abs v * p))
key_below_zero (pos n) p h l = absurd (omega (arith, ints))
key_below_zero (negsuc n) p h l = negated_key (suc n * p) (mul-pos (omega arith) h)

key_from_zero : (v : ℤ) (p : ℕ) → pos 0 ≤ℤ v
    → integer_key (v *ℤ pos p) ≡ natural_key (nat_abs v * p)
key_from_zero (pos n) p l = refl
key_from_zero (negsuc n) p l = absurd (omega (arith, ints))

pub negative_key : (v : ℤ) (s n : ℕ) → v <ℤ pos 0 → n ≡ nat_abs v
    → decimal_key v s ≡ signed true (natural_key (n * 10 ^ (256 - s)))
unfolding scaled_value
negative_key v s n l e =
    rw e (key_below_zero v (10 ^ (256 - s)) (one-le-pow (256 - s) 10 (omega arith)) l)

pub positive_key : (v : ℤ) (s n : ℕ) → pos 0 ≤ℤ v → n ≡ nat_abs v
    → decimal_key v s ≡ signed false (natural_key (n * 10 ^ (256 - s)))
unfolding scaled_value
positive_key v s n l e = rw e (key_from_zero v (10 ^ (256 - s)) l)
