-- The laws of packed codes.
use Rattle.std.proofs.Common.{◌≡◌, ℕ, zero, suc, ◌+◌, ◌*◌, ◌/◌, ◌%◌, ◌^◌, ◌<◌, ◌≤◌, List, []}
use Rattle.std.proofs.Common.{◌∷◌, ◌++◌, length, get_or, take, drop, refl, sym, ap, ap₂, subst}
use Rattle.std.proofs.Common.{◌∙◌, arith}
use Rattle.std.proofs.Common.{inl, inr}
use Rattle.std.specs.Int.{byte_at, bytes_low_first}
use Rattle.std.proofs.lemmas.Nat.{pow-add, pow_pos}
use Rattle.std.proofs.lemmas.Bool.{cases_lt}
use Rattle.std.proofs.lemmas.Grind.{div_ceil_times}
use Rattle.std.proofs.lemmas.List.{append-nil, drop_all, ext_get_or, get_or_past}
use Rattle.std.proofs.lemmas.List.{length-take, take_all}
use Rattle.std.proofs.lemmas.Slice.{take-put_mid}
use borrow.Rule.Slice.PartMut.{put_mid}
use Rattle.std.proofs.lemmas.List.{length-take-le, take_more}
use Rattle.std.proofs.Math.Nat.{div-div-eq-div-mul, div-one, lt_of_mul-lt-mul_left, mod-eq_of_lt}
use Rattle.std.proofs.Math.Nat.{mul-le-mul_left, mul_comm, pow-zero, pow-suc, pow-le-pow_right}
use Rattle.typed_chunk.specs.Digits.{number, digits}
use Rattle.typed_chunk.specs.Packed.{FitWidth, packed, packed_len}
use Rattle.typed_chunk.proofs.DigitLaws.{Below, Below-drop, digits-number, get_or-digits}
use Rattle.typed_chunk.proofs.DigitLaws.{length-digits, number-digits, number-drop, number-lt}
use Rattle.typed_chunk.proofs.DigitLaws.{Below-take, digits-append, number-push, number-take}

-- Powers of a power of two.
pub pow-mul : (w k : ℕ) → (2 ^ w) ^ k ≡ 2 ^ (w * k)
pow-mul w zero =
    let none : w * zero ≡ 0 = omega arith in
    pow-zero (2 ^ w) ∙ ap (λ (n : ℕ). 2 ^ n) (sym none)
pow-mul w (suc k) =
    let more : w * k + w ≡ w * suc k = omega arith in
    pow-suc (2 ^ w) k ∙ ap (λ (n : ℕ). n * 2 ^ w) (pow-mul w k) ∙ sym (pow-add 2 (w * k) w)
    ∙ ap (λ (n : ℕ). 2 ^ n) more

pub bytes-bits : (k : ℕ) → 256 ^ k ≡ 2 ^ (8 * k)
bytes-bits k = pow-mul 8 k

-- The bytes of codes have room for their bits.
pub room : (width count : ℕ) → width * count ≤ 8 * packed_len width count
room width count = omega (arith, (div_ceil_times (count * width) 8 (omega arith)).0)

pub fitting : (width : ℕ) (codes : List ℕ) → Below (2 ^ width) codes
    → number (2 ^ width) codes < 256 ^ packed_len width (length codes)
fitting width codes below =
    let size = packed_len width (length codes) in
    let low = number-lt (2 ^ width) codes below in
    let is = pow-mul width (length codes) in
    let up : 2 ^ (width * length codes) ≤ 2 ^ (8 * size) =
    pow-le-pow_right {n = 2} (omega arith) {i = width * length codes} {j = 8 * size}
    (room width (length codes)) in
    let all = bytes-bits size in
    omega (arith, low, is, up, all)

pub Below-codes : (width : ℕ) (codes : List ℕ) → FitWidth width codes → Below (2 ^ width) codes
Below-codes width codes are i = elim (cases_lt i (length codes)) [
  | inl low ↦ are i 0 low
  | inr high ↦ rw (get_or_past codes i 0 high) (pow_pos width)
]

-- The number of the bytes of codes.
pub number-packed : (width : ℕ) (codes : List ℕ) → Below (2 ^ width) codes
    → number 256 (packed width codes) ≡ number (2 ^ width) codes
number-packed width codes below =
    number-digits 256 (packed_len width (length codes)) (number (2 ^ width) codes) (omega arith)
    (fitting width codes below)

-- What was written reads as the codes.
pub unpacked-packed : (width : ℕ) (codes : List ℕ) → Below (2 ^ width) codes
    → digits (2 ^ width) (length codes) (number 256 (packed width codes)) ≡ codes
unpacked-packed width codes below =
    ap (digits (2 ^ width) (length codes)) (number-packed width codes below)
    ∙ digits-number (2 ^ width) codes below

-- One byte of codes whose width divides 8.
pub narrow_byte : (width each k : ℕ) (codes : List ℕ) → width * each ≡ 8
    → Below (2 ^ width) codes → k < packed_len width (length codes)
    → get_or (packed width codes) k 0 ≡ number (2 ^ width) (take each (drop (each * k) codes))
narrow_byte width each k codes whole below low =
    let base = 2 ^ width in
    let n = number base codes in
    let there : width * (each * k) ≡ 8 * k = omega (arith, ap (λ (x : ℕ). x * k) whole) in
    let behind : 256 ^ k ≡ base ^ (each * k) =
    bytes-bits k ∙ ap (λ (x : ℕ). 2 ^ x) (sym there) ∙ sym (pow-mul width (each * k)) in
    let byte : 256 ≡ base ^ each =
    ap (λ (x : ℕ). 2 ^ x) (sym whole) ∙ sym (pow-mul width each) in
    get_or-digits 256 (packed_len width (length codes)) n k low
    ∙ ap (λ (x : ℕ). n / x % 256) behind
    ∙ ap (λ (x : ℕ). x % 256) (number-drop base (each * k) codes below)
    ∙ ap (λ (x : ℕ). number base (drop (each * k) codes) % x) byte
    ∙ number-take base each (drop (each * k) codes) (pow_pos width)
    (Below-drop base (each * k) codes below)

-- The number of one more code.
pub number-more : (width i : ℕ) (codes : List ℕ) → i < length codes
    → number (2 ^ width) (take (i + 1) codes)
    ≡ number (2 ^ width) (take i codes) + 2 ^ (width * i) * get_or codes i 0
number-more width i codes low =
    let long : length (take i codes) ≡ i = length-take-le i codes (omega arith) in
    ap (number (2 ^ width)) (take_more codes i 0 low)
    ∙ number-push (2 ^ width) (take i codes) (get_or codes i 0)
    ∙ ap (λ (n : ℕ). number (2 ^ width) (take i codes) + n * get_or codes i 0)
    (ap (λ (n : ℕ). (2 ^ width) ^ n) long ∙ pow-mul width i)

-- A few codes fit a byte.
pub few_codes : (width k : ℕ) (codes : List ℕ) → width * length codes ≤ 8
    → Below (2 ^ width) codes → number (2 ^ width) (take k codes) < 256
few_codes width k codes few below =
    let some = take k codes in
    let low = number-lt (2 ^ width) some (Below-take (2 ^ width) k codes below) in
    let is = pow-mul width (length some) in
    let short : length some ≤ length codes = omega (arith, length-take k codes) in
    let bits : width * length some ≤ 8 = omega (arith, mul-le-mul_left width short) in
    let up : 2 ^ (width * length some) ≤ 2 ^ 8 =
    pow-le-pow_right {n = 2} (omega arith) {i = width * length some} {j = 8} bits in
    omega (arith, low, is, up)

pub byte_step : (width i byte : ℕ) (codes : List ℕ) → width * length codes ≤ 8
    → Below (2 ^ width) codes → i < length codes → byte ≡ number (2 ^ width) (take i codes)
    → byte + get_or codes i 0 * 2 ^ (width * i) % 2 ^ 64 ≡ number (2 ^ width) (take (i + 1) codes)
byte_step width i byte codes few below low is =
    let more = number-more width i codes low in
    let small = few_codes width (i + 1) codes few below in
    let turned = mul_comm (get_or codes i 0) (2 ^ (width * i)) in
    let whole : get_or codes i 0 * 2 ^ (width * i) % 2 ^ 64 ≡ get_or codes i 0 * 2 ^ (width * i) =
    mod-eq_of_lt (omega (arith, more, small, turned)) in
    omega (arith, more, turned, whole, is)

-- A byte that has codes begins before the last.
pub byte_within : (width each k count : ℕ) → 0 < width → width * each ≡ 8
    → k < packed_len width count → each * k < count
byte_within width each k count some whole low =
    let there : width * (each * k) ≡ 8 * k = omega (arith, ap (λ (x : ℕ). x * k) whole) in
    let up = (div_ceil_times (count * width) 8 (omega arith)).1 in
    lt_of_mul-lt-mul_left width (omega (arith, there, up, low))

-- Bytes that are each those of codes are their bytes.
pub narrow_bytes : (width each : ℕ) (codes bytes : List ℕ) → width * each ≡ 8
    → Below (2 ^ width) codes → length bytes ≡ packed_len width (length codes)
    → ((k : ℕ) → k < length bytes
    → get_or bytes k 0 ≡ number (2 ^ width) (take each (drop (each * k) codes)))
    → bytes ≡ packed width codes
narrow_bytes width each codes bytes whole below long are =
    let size = packed_len width (length codes) in
    ext_get_or 0 bytes (packed width codes)
    (long ∙ sym (length-digits 256 size (number (2 ^ width) codes)))
    (λ k low. are k low
    ∙ sym (narrow_byte width each k codes whole below (subst (λ (n : ℕ). k < n) long low)))

-- The bytes of one more code of whole bytes.
pub wide_step : (size i : ℕ) (codes : List ℕ) → Below (2 ^ (8 * size)) codes → i < length codes
    → digits 256 (size * (i + 1)) (number (2 ^ (8 * size)) (take (i + 1) codes))
    ≡ digits 256 (size * i) (number (2 ^ (8 * size)) (take i codes))
    ++ digits 256 size (get_or codes i 0)
wide_step size i codes below low =
    let base = 2 ^ (8 * size) in
    let some = take i codes in
    let n = number base some in
    let long : length some ≡ i = length-take-le i codes (omega arith) in
    let power : 2 ^ (8 * size * i) ≡ 256 ^ (size * i) =
    ap (λ (k : ℕ). 2 ^ k) (omega arith) ∙ sym (bytes-bits (size * i)) in
    let fits : n < 256 ^ (size * i) =
    let below_all = number-lt base some (Below-take base i codes below) in
    let is = ap (λ (k : ℕ). base ^ k) long ∙ pow-mul (8 * size) i ∙ power in
    omega (arith, below_all, is) in
    let count : size * (i + 1) ≡ size * i + size = omega arith in
    ap (digits 256 (size * (i + 1)))
    (number-more (8 * size) i codes low
    ∙ ap (λ (k : ℕ). n + k * get_or codes i 0) power)
    ∙ ap (λ (k : ℕ). digits 256 k (n + 256 ^ (size * i) * get_or codes i 0)) count
    ∙ digits-append 256 (size * i) size n (get_or codes i 0) (omega arith) fits

-- The bytes of a number, as the library writes them.
pub byte_is : (i n : ℕ) → byte_at i n ≡ n / 256 ^ i % 256
byte_is zero n = ap (λ (k : ℕ). k % 256) (sym (div-one n))
byte_is (suc i) n = refl

bytes_from : (i count n : ℕ) → bytes_low_first i count n ≡ digits 256 count (n / 256 ^ i)
bytes_from i zero n = refl
bytes_from i (suc count) n =
    ap₂ (λ (x : ℕ) (xs : List ℕ). x ∷ xs) (byte_is i n)
    (bytes_from (suc i) count n
    ∙ ap (digits 256 count) (ap (λ (k : ℕ). n / k) (pow-suc 256 i)
    ∙ sym (div-div-eq-div-mul n (256 ^ i) 256)))

pub bytes_are : (count n : ℕ) → bytes_low_first 0 count n ≡ digits 256 count n
bytes_are count n = bytes_from 0 count n ∙ ap (digits 256 count) (div-one n)

-- The bytes of one more number are written behind the others.
pub wide_written : (size i x k : ℕ) (bytes written others : List ℕ) → k ≡ size
    → size * i + size ≤ length bytes
    → written ≡ bytes_low_first 0 size x ++ drop size (take k (drop (size * i) bytes))
    → take (size * i) bytes ≡ others
    → take (size * (i + 1)) (put_mid (size * i) k bytes written) ≡ others ++ digits 256 size x
wide_written size i x k bytes written others long low is so_far =
    let part = take k (drop (size * i) bytes) in
    let none : drop size part ≡ [] =
    drop_all size part (omega (arith, long, length-take k (drop (size * i) bytes))) in
    let new : written ≡ digits 256 size x =
    is ∙ ap (λ (xs : List ℕ). bytes_low_first 0 size x ++ xs) none
    ∙ append-nil (bytes_low_first 0 size x) ∙ bytes_are size x in
    let count : length written ≡ size = ap length new ∙ length-digits 256 size x in
    take-put_mid (size * i) k bytes written (size * (i + 1)) (omega (arith, count))
    (omega (arith, low))
    ∙ ap₂ (λ (xs ys : List ℕ). xs ++ ys) so_far new

-- How many bytes codes of whole bytes take.
pub wide_len : (size count : ℕ) → packed_len (8 * size) count ≡ size * count
wide_len size count =
    let bounds = div_ceil_times (count * (8 * size)) 8 (omega arith) in
    let low = bounds.0 in
    let high = bounds.1 in
    omega (arith, low, high)

-- All bytes of codes of whole bytes.
pub wide_bytes : (size : ℕ) (codes bytes : List ℕ) → length bytes ≡ size * length codes
    → take (size * length codes) bytes
    ≡ digits 256 (size * length codes) (number (2 ^ (8 * size)) (take (length codes) codes))
    → bytes ≡ packed (8 * size) codes
wide_bytes size codes bytes long are =
    let all = take_all (size * length codes) bytes (omega (arith, long)) in
    let every = take_all (length codes) codes (omega arith) in
    sym all ∙ are
    ∙ ap₂ (λ (k n : ℕ). digits 256 k n) (sym (wide_len size (length codes)))
    (ap (number (2 ^ (8 * size))) every)
