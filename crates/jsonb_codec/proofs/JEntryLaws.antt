-- The two masks of an entry word.
use Rattle.std.proofs.Common.{◌≡◌, ℕ, ◌-◌, ◌*◌, ◌/◌, ◌%◌, ◌^◌, bit_and, bit_or, sym, ap, ap₂, ◌∙◌}
use Rattle.std.proofs.Common.{arith}
use Rattle.std.proofs.lemmas.Nat.{and_mask, and_block, and_le_r, or_shifted, shr_split}

bit_and-zero : (n : ℕ) → bit_and n 0 ≡ 0
bit_and-zero n = omega (arith, and_le_r n 0)

-- the three bits above the length
pub bit_and-type : (k : ℕ) → bit_and k 1879048192 ≡ k / 2 ^ 28 % 8 * 2 ^ 28
bit_and-type k =
    let split = shr_split k 28 in
    let block = and_block 28 (k / 2 ^ 28) 7 (k % 2 ^ 28) 0 (omega arith) (omega arith) in
    let low = bit_and-zero (k % 2 ^ 28) in
    let high = and_mask (k / 2 ^ 28) 3 in
    ap (λ (n : ℕ). bit_and n 1879048192) (sym split) ∙ block ∙ omega (arith, low, high)

-- the bits of the length
pub bit_and-length : (k : ℕ) → bit_and k 268435455 ≡ k % 2 ^ 28
bit_and-length k = and_mask k 28

pub type-arithmetic : (k : ℕ) → k / 2 ^ 28 % 8 * 2 ^ 28 ≡ k % 2 ^ 31 - k % 2 ^ 28
type-arithmetic k = omega arith

-- type and length joined again
pub bit_or-parts : (k : ℕ) → bit_or (bit_and k 1879048192) (bit_and k 268435455) ≡ k % 2 ^ 31
bit_or-parts k =
    ap₂ (λ (a b : ℕ). bit_or a b) (bit_and-type k) (bit_and-length k)
    ∙ or_shifted (k / 2 ^ 28 % 8) 28 (k % 2 ^ 28) (omega arith) ∙ omega arith
