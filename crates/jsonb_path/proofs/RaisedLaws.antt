-- Digits with zeros after them: step by step, and past 128 bits.
use Rattle.std.proofs.Common.{◌≡◌, ℕ, zero, suc, ◌+◌, ◌-◌, ◌*◌, ◌%◌, ◌^◌, ◌<◌, ◌≤◌, sym, ap}
use Rattle.std.proofs.Common.{◌∙◌, arith, Bool, true, false, pos}
use Rattle.std.proofs.Math.Nat.{pow-succ', le-mul_of_pos_right, one-le-pow, mod-add-mod}
use Rattle.std.proofs.Math.Nat.{add-mod-mod, mul_assoc, mul_comm}
use Rattle.std.proofs.lemmas.Int.{ints}
use Rattle.std.specs.Prelude.{◌+ℤ◌, ◌*ℤ◌, FitsSigned}
use Rattle.std.specs.Int.{w128}
use Rattle.jsonb_value.specs.Json.Numeral.{signed_number}

-- with a zero left, the power has a factor of ten
power_left : (zeros at : ℕ) → at < zeros → 10 ^ (zeros - at) ≡ 10 * 10 ^ (zeros - (at + 1))
power_left zeros at h =
    let e : zeros - at ≡ suc (zeros - (at + 1)) = omega arith in
    ap (λ n. 10 ^ n) e ∙ pow-succ' 10 (zeros - (at + 1))

pub raised_step : (m zeros at : ℕ) → at < zeros
    → (m * 10) * 10 ^ (zeros - (at + 1)) ≡ m * 10 ^ (zeros - at)
raised_step m zeros at h =
    mul_assoc m 10 (10 ^ (zeros - (at + 1))) ∙ ap (λ n. m * n) (sym (power_left zeros at h))

pub power_above_zero : (n : ℕ) → 0 < 10 ^ n
power_above_zero n = one-le-pow n 10 (omega arith)

pub raised_past : (m zeros at : ℕ) → at < zeros → ¬ (m * 10 < 2 ^ 128)
    → ¬ (m * 10 ^ (zeros - at) < 2 ^ 128)
raised_past m zeros at h past small =
    let more : m * 10 ≤ (m * 10) * 10 ^ (zeros - (at + 1)) =
    le-mul_of_pos_right (m * 10) (power_above_zero (zeros - (at + 1))) in
    let e : (m * 10) * 10 ^ (zeros - (at + 1)) ≡ m * 10 ^ (zeros - at) = raised_step m zeros at h in
    past (omega arith)

pub raised_done : (m zeros at : ℕ) → zeros ≤ at → m * 10 ^ (zeros - at) ≡ m
raised_done m zeros at h =
    let e : zeros - at ≡ 0 = omega arith in
    let f : 10 ^ (zeros - at) ≡ 1 = ap (λ n. 10 ^ n) e in
    ap (λ n. m * n) f ∙ omega arith

-- a rest is taken once or twice
twofold : (x d : ℕ) → (x % d + x % d) % d ≡ (x + x) % d
twofold x d = mod-add-mod x d (x % d) ∙ add-mod-mod x x d

-- ten times a rest, by doubling
pub tenfold : (r x d two four five ten : ℕ) → r ≡ x % d → two ≡ (r + r) % d
    → four ≡ (two + two) % d → five ≡ (four + r) % d → ten ≡ (five + five) % d
    → ten ≡ (x * 10) % d
tenfold r x d two four five ten is a b c e =
    let two_is : two ≡ (x + x) % d = a ∙ ap (λ n. (n + n) % d) is ∙ twofold x d in
    let four_is : four ≡ ((x + x) + (x + x)) % d =
    b ∙ ap (λ n. (n + n) % d) two_is ∙ twofold (x + x) d in
    let five_is : five ≡ (((x + x) + (x + x)) + x) % d =
    c ∙ ap (λ n. (n + r) % d) four_is ∙ ap (λ n. (((x + x) + (x + x)) % d + n) % d) is
    ∙ mod-add-mod ((x + x) + (x + x)) d (x % d) ∙ add-mod-mod ((x + x) + (x + x)) x d in
    e ∙ ap (λ n. (n + n) % d) five_is ∙ twofold (((x + x) + (x + x)) + x) d
    ∙ ap (λ n. n % d) (omega arith)

pub power_next : (m at : ℕ) → (m * 10 ^ at) * 10 ≡ m * 10 ^ (at + 1)
power_next m at =
    mul_assoc m (10 ^ at) 10 ∙ ap (λ n. m * n) (mul_comm (10 ^ at) 10 ∙ sym (pow-succ' 10 at) ∙
    ap (λ n. 10 ^ n) (omega arith))

-- the sign moves out of a product
pub signed_times : (b : Bool) (m n : ℕ) → signed_number b m *ℤ pos n ≡ signed_number b (m * n)
signed_times true m n = grind (arith, ints)
signed_times false m n = grind (arith, ints)

too_far : (a b : Bool) (x n : ℕ) → 2 ^ 128 < x → n ≤ 2 ^ 127
    → ¬ (FitsSigned w128 (signed_number a x +ℤ signed_number b n))
too_far true true x n p q = grind (arith, ints)
too_far true false x n p q = grind (arith, ints)
too_far false true x n p q = grind (arith, ints)
too_far false false x n p q = grind (arith, ints)

-- no power of two ends with a zero
past_by_more : (m zeros : ℕ) → m ≤ 2 ^ 127 → ¬ (m * 10 ^ zeros < 2 ^ 128) → 2 ^ 128 < m * 10 ^ zeros
past_by_more m zero p h = absurd (h (omega arith))
past_by_more m (suc k) p h =
    let e : m * 10 ^ suc k ≡ 10 * (m * 10 ^ k) =
    ap (λ n. m * n) (pow-succ' 10 k) ∙ sym (mul_assoc m 10 (10 ^ k))
    ∙ ap (λ n. n * 10 ^ k) (mul_comm m 10) ∙ mul_assoc 10 m (10 ^ k) in
    omega arith

pub past_sum : (a b : Bool) (m zeros n : ℕ) → m ≤ 2 ^ 127 → n ≤ 2 ^ 127
    → ¬ (m * 10 ^ zeros < 2 ^ 128)
    → ¬ (FitsSigned w128 (signed_number a m *ℤ pos (10 ^ zeros) +ℤ signed_number b n))
past_sum a b m zeros n p q h fits =
    too_far a b (m * 10 ^ zeros) n (past_by_more m zeros p h) q
    (rw (signed_times a m (10 ^ zeros)) at fits)
