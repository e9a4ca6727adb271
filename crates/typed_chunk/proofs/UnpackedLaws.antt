-- The laws of reading codes.
use Rattle.std.proofs.Common.{◌≡◌, ℕ, zero, suc, ◌+◌, ◌-◌, ◌*◌, ◌/◌, ◌%◌, ◌^◌, ◌<◌, ◌≤◌, List, []}
use Rattle.std.proofs.Common.{◌∷◌, length, get_or, take, drop, replicate, refl, sym, ap, ap₂, subst}
use Rattle.std.proofs.Common.{◌∙◌}
use Rattle.std.proofs.Common.{arith}
use Rattle.std.specs.Int.{div_ceil}
use Rattle.std.proofs.lemmas.Nat.{div_below, mod_below, pow-add, pow_pos}
use Rattle.std.proofs.lemmas.List.{drop_all, drop_more, ext_get_or, get_or_default}
use Rattle.std.proofs.lemmas.List.{get_or-replicate, length-drop, length-replicate, length-take-le}
use Rattle.std.proofs.Math.Nat.{add-mul-div_left, add-mul-mod_self_left, div-div-eq-div-mul}
use Rattle.std.proofs.Math.Nat.{lt-mul-div-succ, mod-add-div, mul-le-mul_left}
use Rattle.std.proofs.Math.Nat.{le_of_mul-le-mul_left, mod-one, mul_assoc}
use Rattle.byteorder.specs.Endian.{little_from}
use Rattle.byteorder.specs.Numbers.{little_from-cons}
use Rattle.typed_chunk.specs.Digits.{number, digits}
use Rattle.typed_chunk.specs.Packed.{ArePacked, code_in, packed_len}
use Rattle.typed_chunk.proofs.DigitLaws.{Below, Below-digits, Below-drop, digits-number}
use Rattle.typed_chunk.proofs.DigitLaws.{get_or-digits}
use Rattle.typed_chunk.proofs.DigitLaws.{length-digits, number-digits, number-drop, number-lt}
use Rattle.typed_chunk.proofs.DigitLaws.{number-take}
use Rattle.typed_chunk.proofs.PackedLaws.{Below-codes, bytes-bits, number-packed, pow-mul}
use Rattle.typed_chunk.proofs.PackedLaws.{unpacked-packed}

-- A number is below another one exactly if the quotient is 0.
pub below_from_div : (n m : ℕ) → 0 < m → n / m ≡ 0 → n < m
below_from_div n m some none =
    let up = lt-mul-div-succ n {b = m} some in
    let one : m * (n / m + 1) ≡ m * (0 + 1) = ap (λ (k : ℕ). m * (k + 1)) none in
    omega (arith, up, one)

-- Whole bytes have no bits past the last.
pub whole_bytes : (count : ℕ) (bytes : List ℕ) → Below 256 bytes → count % 8 ≡ 0
    → length bytes ≡ div_ceil count 8 → number 256 bytes < 2 ^ count
whole_bytes count bytes below none long =
    let low = number-lt 256 bytes below in
    let is = bytes-bits (length bytes) in
    let all : 8 * length bytes ≡ count = omega (arith, none, long) in
    subst (λ k. number 256 bytes < 2 ^ k) all (omega (arith, low, is))

-- The bits past the last are those of the last byte.
pub last_byte : (count : ℕ) (bytes : List ℕ) → Below 256 bytes → 0 < count % 8
    → length bytes ≡ div_ceil count 8
    → number 256 bytes / 2 ^ count ≡ get_or bytes (count / 8) 0 / 2 ^ (count % 8)
last_byte count bytes below some long =
    let q = count / 8 in
    let r = count % 8 in
    let parts : count ≡ 8 * q + r = omega arith in
    let inside : q < length bytes = omega (arith, some, long) in
    let tail : drop q bytes ≡ get_or bytes q 0 ∷ [] =
    drop_more bytes q 0 inside
    ∙ ap (λ (xs : List ℕ). get_or bytes q 0 ∷ xs)
    (drop_all (q + 1) bytes (omega (arith, some, long))) in
    let power : 2 ^ count ≡ 256 ^ q * 2 ^ r =
    ap (λ (k : ℕ). 2 ^ k) parts ∙ pow-add 2 (8 * q) r
    ∙ ap (λ (k : ℕ). k * 2 ^ r) (sym (bytes-bits q)) in
    let last : number 256 (drop q bytes) ≡ get_or bytes q 0 =
    ap (number 256) tail ∙ omega arith in
    ap (λ (k : ℕ). number 256 bytes / k) power
    ∙ sym (div-div-eq-div-mul (number 256 bytes) (256 ^ q) (2 ^ r))
    ∙ ap (λ (k : ℕ). k / 2 ^ r) (number-drop 256 q bytes below ∙ last)

each_some : (width each : ℕ) → width * each ≡ 8 → 0 < each
each_some width zero whole = absurd (omega (arith, whole))
each_some width (suc each) whole = omega arith

width_some : (width each : ℕ) → width * each ≡ 8 → 0 < width
width_some zero each whole = absurd (omega (arith, whole))
width_some (suc width) each whole = omega arith

pub byte_inside : (width each index long : ℕ) → width * each ≡ 8
    → width * (index + 1) ≤ 8 * long → index / each < long
byte_inside width each index long whole within =
    let several = each_some width each whole in
    let most : width * (index + 1) ≤ width * (each * long) =
    omega (arith, within, ap (λ (k : ℕ). k * long) whole) in
    div_below index each long several
    (omega (arith, le_of_mul-le-mul_left most (width_some width each whole)))

place_of : (width each q r index : ℕ) → width * each ≡ 8 → r + each * q ≡ index
    → width * index ≡ 8 * q + width * r
place_of width each q r index whole parts =
    omega (arith, ap (λ (k : ℕ). width * k) parts, ap (λ (k : ℕ). k * q) whole)

split_eight : (a b : ℕ) → a + b ≤ 8 → 8 ≡ a + (b + (8 - (a + b)))
split_eight a b low = omega (arith, low)

pub width_low : (width each : ℕ) → width * each ≡ 8 → width ≤ 8
width_low width zero whole = absurd (omega (arith, whole))
width_low width (suc each) whole = omega (arith, whole)

-- A digit of a number whose base divides 256, in its byte.
pub narrow_code : (width each index : ℕ) (bytes : List ℕ) → 0 < width → width * each ≡ 8
    → Below 256 bytes → width * (index + 1) ≤ 8 * length bytes
    → (get_or bytes (index / each) 0 / 2 ^ (width * (index % each))) % 2 ^ width
    ≡ code_in width bytes index
narrow_code width each index bytes some whole below within =
    let q = index / each in
    let r = index % each in
    let base = 2 ^ width in
    let several : 0 < each = each_some width each whole in
    let parts : r + each * q ≡ index = mod-add-div index each in
    let small : r < each = mod_below index each several in
    let inside : q < length bytes = byte_inside width each index (length bytes) whole within in
    let rest = number 256 (drop (q + 1) bytes) in
    let byte = get_or bytes q 0 in
    let there : number 256 (drop q bytes) ≡ byte + 256 * rest =
    ap (number 256) (drop_more bytes q 0 inside) in
    let place : width * index ≡ 8 * q + width * r =
    place_of width each q r index whole parts in
    let power : 2 ^ (width * index) ≡ 256 ^ q * 2 ^ (width * r) =
    ap (λ (k : ℕ). 2 ^ k) place ∙ pow-add 2 (8 * q) (width * r)
    ∙ ap (λ (k : ℕ). k * 2 ^ (width * r)) (sym (bytes-bits q)) in
    let left = 8 - (width * r + width) in
    let room : width * r + width ≤ 8 = omega (arith, whole, mul-le-mul_left width small) in
    let eight : 256 ≡ 2 ^ (width * r) * (base * 2 ^ left) =
    ap (λ (k : ℕ). 2 ^ k) (split_eight (width * r) width room)
    ∙ pow-add 2 (width * r) (width + left)
    ∙ ap (λ (k : ℕ). 2 ^ (width * r) * k) (pow-add 2 width left) in
    let far : 256 * rest ≡ 2 ^ (width * r) * (base * (2 ^ left * rest)) =
    ap (λ (k : ℕ). k * rest) eight
    ∙ mul_assoc (2 ^ (width * r)) (base * 2 ^ left) rest
    ∙ ap (λ (k : ℕ). 2 ^ (width * r) * k) (mul_assoc base (2 ^ left) rest) in
    let whole_number : number 256 bytes / 2 ^ (width * index)
    ≡ byte / 2 ^ (width * r) + base * (2 ^ left * rest) =
    ap (λ (k : ℕ). number 256 bytes / k) power
    ∙ sym (div-div-eq-div-mul (number 256 bytes) (256 ^ q) (2 ^ (width * r)))
    ∙ ap (λ (k : ℕ). k / 2 ^ (width * r)) (number-drop 256 q bytes below ∙ there
    ∙ ap (λ (k : ℕ). byte + k) far)
    ∙ add-mul-div_left byte (base * (2 ^ left * rest)) {y = 2 ^ (width * r)} (pow_pos (width * r))
    in
    sym (ap (λ (k : ℕ). k % base) whole_number
    ∙ add-mul-mod_self_left (byte / 2 ^ (width * r)) base (2 ^ left * rest))

-- The number of bytes, as the library reads them.
pub number_is : (bytes : List ℕ) → little_from 0 (length bytes) bytes ≡ number 256 bytes
number_is [] = refl
number_is (x ∷ bytes) =
    ap (λ (n : ℕ). x + 256 * n)
    (little_from-cons 0 (length bytes) x bytes ∙ number_is bytes)

-- A digit of a number whose base is a power of 256, in its bytes.
pub wide_code : (size index : ℕ) (bytes part : List ℕ) → Below 256 bytes
    → size * (index + 1) ≤ length bytes → part ≡ take size (drop (size * index) bytes)
    → little_from 0 size part ≡ code_in (8 * size) bytes index
wide_code size index bytes part below within is =
    let start = size * index in
    let long : length part ≡ size =
    ap length is
    ∙ length-take-le size (drop start bytes) (omega (arith, within, length-drop start bytes)) in
    let power : 2 ^ (8 * size * index) ≡ 256 ^ start =
    ap (λ (k : ℕ). 2 ^ k) (omega arith) ∙ sym (bytes-bits start) in
    let base : 2 ^ (8 * size) ≡ 256 ^ size = sym (bytes-bits size) in
    ap (λ (k : ℕ). little_from 0 k part) (sym long) ∙ number_is part ∙ ap (number 256) is
    ∙ sym (ap₂ (λ (k m : ℕ). number 256 bytes / k % m) power base
    ∙ ap (λ (k : ℕ). k % 256 ^ size) (number-drop 256 start bytes below)
    ∙ number-take 256 size (drop start bytes) (omega arith) (Below-drop 256 start bytes below))

-- Codes that are each that at their index are the digits.
pub filled : (width : ℕ) (codes bytes : List ℕ)
    → ((k : ℕ) → k < length codes → get_or codes k 0 ≡ code_in width bytes k)
    → codes ≡ digits (2 ^ width) (length codes) (number 256 bytes)
filled width codes bytes are =
    let n = number 256 bytes in
    ext_get_or 0 codes (digits (2 ^ width) (length codes) n)
    (sym (length-digits (2 ^ width) (length codes) n))
    (λ k low. are k low
    ∙ ap (λ (m : ℕ). n / m % 2 ^ width) (sym (pow-mul width k))
    ∙ sym (get_or-digits (2 ^ width) (length codes) n k low))

-- Bytes whose bits past the last code are 0 are those of the codes that they are read as.
pub packed-unpacked : (width count : ℕ) (codes bytes : List ℕ) → Below 256 bytes
    → length bytes ≡ packed_len width count → number 256 bytes < 2 ^ (width * count)
    → codes ≡ digits (2 ^ width) count (number 256 bytes) → ArePacked width codes bytes
packed-unpacked width count codes bytes below long low is =
    let n = number 256 bytes in
    let many : length codes ≡ count = ap length is ∙ length-digits (2 ^ width) count n in
    let fits : n < (2 ^ width) ^ count = subst (λ k. n < k) (sym (pow-mul width count)) low in
    let same : number (2 ^ width) codes ≡ n =
    ap (number (2 ^ width)) is ∙ number-digits (2 ^ width) count n (pow_pos width) fits in
    let each : Below (2 ^ width) codes =
    subst (Below (2 ^ width)) (sym is) (Below-digits (2 ^ width) count n (pow_pos width)) in
    record {
      fit = λ k d inside. subst (λ x. x < 2 ^ width) (get_or_default codes k 0 d inside) (each k);
      same = sym (ap₂ (λ (k m : ℕ). digits 256 k m)
          (ap (packed_len width) many ∙ sym long) same
          ∙ digits-number 256 bytes below);
    }

-- What the bytes of codes say of their number and of their bits.
pub record Written (width : ℕ) (codes bytes : List ℕ) : Type 0 where
  pub long : length bytes ≡ packed_len width (length codes)
  pub low : number 256 bytes < 2 ^ (width * length codes)
  pub back : digits (2 ^ width) (length codes) (number 256 bytes) ≡ codes

pub written : (width : ℕ) (codes bytes : List ℕ) → ArePacked width codes bytes
    → Written width codes bytes
written width codes bytes are =
    let below = Below-codes width codes are.fit in
    let n = number (2 ^ width) codes in
    let is : number 256 bytes ≡ n = ap (number 256) are.same ∙ number-packed width codes below in
    record {
      long = ap length are.same ∙ length-digits 256 (packed_len width (length codes)) n;
      low = subst (λ k. k < 2 ^ (width * length codes)) (sym is)
          (subst (λ k. n < k) (pow-mul width (length codes)) (number-lt (2 ^ width) codes below));
      back = ap (λ (bs : List ℕ). digits (2 ^ width) (length codes) (number 256 bs)) are.same
          ∙ unpacked-packed width codes below;
    }

-- The code at an index of bytes of codes.
pub code_packed : (width index : ℕ) (codes bytes : List ℕ) → ArePacked width codes bytes
    → index < length codes → code_in width bytes index ≡ get_or codes index 0
code_packed width index codes bytes are low =
    let n = number 256 bytes in
    ap (λ (k : ℕ). n / k % 2 ^ width) (sym (pow-mul width index))
    ∙ sym (get_or-digits (2 ^ width) (length codes) n index low)
    ∙ ap (λ (xs : List ℕ). get_or xs index 0) (written width codes bytes are).back

-- Codes of no bits are 0.
pub none_filled : (width : ℕ) (codes bytes : List ℕ) (count : ℕ) → width ≡ 0
    → codes ≡ replicate count 0 → codes ≡ digits (2 ^ width) count (number 256 bytes)
none_filled width codes bytes count none is =
    let long : length codes ≡ count = ap length is ∙ length-replicate {A = ℕ} count 0 in
    subst (λ k. codes ≡ digits (2 ^ width) k (number 256 bytes)) long
    (filled width codes bytes
    (λ k low. ap (λ (xs : List ℕ). get_or xs k 0) is
    ∙ get_or-replicate {A = ℕ} count k 0 0 (omega (arith, low, long))
    ∙ sym (ap (λ (w : ℕ). number 256 bytes / 2 ^ (w * k) % 2 ^ w) none
    ∙ mod-one (number 256 bytes / 2 ^ (0 * k)))))
