-- The laws of numbers in bytes, the highest first.
use Rattle.std.proofs.Common.{◌≡◌, ℕ, zero, suc, ◌+◌, ◌*◌, ◌/◌, ◌%◌, ◌^◌, ◌<◌, ◌≤◌, List, [], ◌∷◌}
use Rattle.std.proofs.Common.{◌∙◌, ap, ap₂, arith, length, refl, sym, take}
use Rattle.std.specs.Int.{bytes_high_first}
use Rattle.std.proofs.Math.Nat.{add-mul-div_left, add-mul-mod_self_left, div-eq_of_lt, mod-eq_of_lt}
use Rattle.std.proofs.Math.Nat.{mul_assoc, mul_comm, one-le-pow, pow-suc}
use Rattle.byteorder.specs.Endian.{big_from}
use Rattle.byteorder.specs.Numbers.{big_from-cons, big_from-lt}
use Rattle.typed_chunk.proofs.DigitLaws.{Below}
use Rattle.typed_chunk.proofs.PackedLaws.{byte_is}

-- What is above some bytes does not change them.
high_bytes_low : (count x y : ℕ)
    → bytes_high_first count (x + 256 ^ count * y) ≡ bytes_high_first count x
high_bytes_low zero x y = refl
high_bytes_low (suc count) x y =
    let power = 256 ^ count in
    let up : 256 ^ suc count * y ≡ power * (256 * y) =
    ap (λ (k : ℕ). k * y) (pow-suc 256 count) ∙ mul_assoc power 256 y in
    let sum : x + 256 ^ suc count * y ≡ x + power * (256 * y) = omega (arith, up) in
    let some : 0 < power = one-le-pow count 256 (omega arith) in
    let first : (x + power * (256 * y)) / power % 256 ≡ x / power % 256 =
    ap (λ (k : ℕ). k % 256) (add-mul-div_left x (256 * y) {y = power} some)
    ∙ add-mul-mod_self_left (x / power) 256 y in
    ap (bytes_high_first (suc count)) sum
    ∙ ap₂ (λ (b : ℕ) (bs : List ℕ). b ∷ bs)
    (byte_is count (x + power * (256 * y)) ∙ first ∙ sym (byte_is count x))
    (high_bytes_low count x (256 * y))

-- The bytes of the number of bytes are these.
pub high_bytes-number : (count : ℕ) (bytes : List ℕ) → Below 256 bytes → count ≤ length bytes
    → bytes_high_first count (big_from 0 count bytes) ≡ take count bytes
high_bytes-number zero bytes below long = refl
high_bytes-number (suc count) [] below long = absurd (omega (arith, long))
high_bytes-number (suc count) (x ∷ bytes) below long =
    let power = 256 ^ count in
    let rest = big_from 0 count bytes in
    let low : rest < power = big_from-lt 0 count bytes (λ i. below (suc i)) in
    let some : 0 < power = one-le-pow count 256 (omega arith) in
    let turned : x * power ≡ power * x = mul_comm x power in
    let is : x * power + big_from 1 count (x ∷ bytes) ≡ rest + power * x =
    omega (arith, turned, big_from-cons 0 count x bytes) in
    let byte : x < 256 = below 0 in
    let behind : (rest + power * x) / power ≡ x =
    add-mul-div_left rest x {y = power} some ∙ ap (λ (k : ℕ). k + x) (div-eq_of_lt low)
    ∙ omega arith in
    let first : (rest + power * x) / power % 256 ≡ x =
    ap (λ (k : ℕ). k % 256) behind ∙ mod-eq_of_lt byte in
    ap (bytes_high_first (suc count)) is
    ∙ ap₂ (λ (b : ℕ) (bs : List ℕ). b ∷ bs)
    (byte_is count (rest + power * x) ∙ first)
    (high_bytes_low count rest x
    ∙ high_bytes-number count bytes (λ i. below (suc i)) (omega (arith, long)))
