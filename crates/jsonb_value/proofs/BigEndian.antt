-- Integers as big-endian bytes: a number decoded from its bytes, and bytes encoded from their
-- number.
use Rattle.std.proofs.Common.{◌≡◌, ◌<◌, ◌≤◌, ◌+◌, ◌*◌, ◌/◌, ◌^◌, ℕ, ℤ, zero, suc, List, [], ◌∷◌}
use Rattle.std.proofs.Common.{◌++◌, length, take, get_or, refl, sym, ap, ap₂, subst, ◌∙◌, arith}
use Rattle.std.proofs.Common.{append-nil}
use Rattle.std.proofs.lemmas.Nat.{div-mul-add}
use Rattle.std.proofs.Math.Nat.{mod-lt}
use Rattle.std.proofs.Math.Facts.{sfits_to_z}
use Rattle.std.proofs.lemmas.Int.{to_z-of_z, of_z-to_z}
use mir.Val.{SFits, bits, of_z, to_z}
use Rattle.std.specs.Prelude.{FitsSigned}
use Rattle.std.specs.Int.{Width, byte_len, bytes_high_first, from_be_bytes}
use Rattle.std.specs.Int.{to_be_bytes, cast_signed}
use Rattle.byteorder.specs.Endian.{big_number}
use Rattle.byteorder.specs.Numbers.{big_from-cons, big_from-lt}
use Rattle.jsonb_value.specs.Payload.{IsUnsigned, IsSigned}
use Rattle.jsonb_value.specs.NumCode.{signed_bytes}

-- every element is a byte
abbrev pub AreBytes : List ℕ → Type 0
AreBytes bs = (i : ℕ) → get_or bs i 0 < 256

-- equal lists have the same property
pub AreBytes-equal : (bs cs : List ℕ) → bs ≡ cs → AreBytes bs → AreBytes cs
AreBytes-equal bs cs e h = subst (λ xs. AreBytes xs) e h

pub AreBytes-front : (bs cs : List ℕ) → AreBytes (bs ++ cs) → AreBytes bs
AreBytes-front [] cs h i = omega arith
AreBytes-front (b ∷ bs) cs h zero = h 0
AreBytes-front (b ∷ bs) cs h (suc i) = AreBytes-front bs cs (λ k. h (suc k)) i

pub AreBytes-back : (bs cs : List ℕ) → AreBytes (bs ++ cs) → AreBytes cs
AreBytes-back [] cs h = h
AreBytes-back (b ∷ bs) cs h = AreBytes-back bs cs (λ k. h (suc k))

-- the bytes of a number are bytes
AreBytes-bytes_high_first : (k n : ℕ) → AreBytes (bytes_high_first k n)
AreBytes-bytes_high_first zero n i = omega arith
AreBytes-bytes_high_first (suc zero) n zero = mod-lt n (omega arith)
AreBytes-bytes_high_first (suc (suc k)) n zero = grind (arith, mod-lt)
AreBytes-bytes_high_first (suc k) n (suc i) = AreBytes-bytes_high_first k n i

-- two byte strings of one length with the same number are equal
big_number-same : (bs cs : List ℕ) → AreBytes bs → AreBytes cs → length bs ≡ length cs
    → big_number (length bs) bs ≡ big_number (length bs) cs → bs ≡ cs
big_number-same [] [] h k n e = refl
big_number-same [] (c ∷ cs) h k n e = absurd (omega arith)
big_number-same (b ∷ bs) [] h k n e = absurd (omega arith)
big_number-same (b ∷ bs) (c ∷ cs) h k n e =
    let size = 256 ^ length bs in
    let low_b = big_from-lt 0 (length bs) bs (λ i. h (suc i)) in
    let low_c = big_from-lt 0 (length bs) cs (λ i. k (suc i)) in
    let same : b * size + big_number (length bs) bs ≡ c * size + big_number (length bs) cs =
    omega (arith, e, big_from-cons 0 (length bs) b bs, big_from-cons 0 (length bs) c cs) in
    let first : b ≡ c = sym (div-mul-add b size (big_number (length bs) bs) low_b) ∙ ap
    (λ (x : ℕ). x / size) same ∙ div-mul-add c size (big_number (length bs) cs) low_c in
    let rest : big_number (length bs) bs ≡ big_number (length bs) cs =
    omega (arith, same, ap (λ (x : ℕ). x * size) first) in
    ap₂ (λ (x : ℕ) (xs : List ℕ). x ∷ xs) first
    (big_number-same bs cs (λ i. h (suc i)) (λ i. k (suc i)) (omega arith) rest)

-- `from_be_bytes` agrees with the number that `byteorder` reads
pub from_be_bytes-number : (w : Width) (bs : List ℕ)
    → from_be_bytes w bs ≡ big_number (byte_len w) bs
from_be_bytes-number w bs = grind arith

pow-byte_len : (w : Width) → 256 ^ byte_len w ≡ 2 ^ bits w
pow-byte_len w = grind arith

pub length-to_be_bytes : (w : Width) (n : ℕ) → length (to_be_bytes w n) ≡ byte_len w
length-to_be_bytes w n = grind arith

-- decoding an encoded number gives the number
from_be_bytes-to_be_bytes : (w : Width) (n : ℕ) → n < 2 ^ bits w
    → from_be_bytes w (to_be_bytes w n) ≡ n
from_be_bytes-to_be_bytes w n small = grind (arith, from_be_bytes-number, append-nil, pow-byte_len)

from_be_bytes-small : (w : Width) (bs : List ℕ) → AreBytes bs → from_be_bytes w bs < 2 ^ bits w
from_be_bytes-small w bs h = grind (arith, pow-byte_len, from_be_bytes-number)

-- encoding a decoded number gives its bytes
to_be_bytes-from_be_bytes : (w : Width) (bs : List ℕ) → length bs ≡ byte_len w → AreBytes bs
    → to_be_bytes w (from_be_bytes w bs) ≡ bs
to_be_bytes-from_be_bytes w bs n h =
    grind (
      arith,
      length-to_be_bytes,
      from_be_bytes-number,
      from_be_bytes-to_be_bytes,
      from_be_bytes-small,
      big_number-same,
      AreBytes-bytes_high_first,
    )

-- the first bytes encode the signed number that is read from them, cast to its bits and back
pub IsSigned-read : (w : Width) (bs : List ℕ) (v : ℤ) → SFits w v → byte_len w ≤ length bs
    → v ≡ cast_signed w (big_number (byte_len w) bs)
    → IsSigned w (take (byte_len w) bs) (to_z w (of_z w v))
IsSigned-read w bs v fits room e = grind (arith, to_z-of_z, from_be_bytes-number)

-- the bytes of a signed number decode to it
pub IsSigned-signed_bytes : (w : Width) (v : ℤ) → FitsSigned w v → IsSigned w (signed_bytes w v) v
IsSigned-signed_bytes w v fits =
    grind (arith, length-to_be_bytes, from_be_bytes-to_be_bytes, to_z-of_z)

pub signed_bytes-IsSigned : (w : Width) (bs : List ℕ) (v : ℤ) → AreBytes bs → IsSigned w bs v
    → signed_bytes w v ≡ bs
signed_bytes-IsSigned w bs v h is =
    grind (arith, of_z-to_z, from_be_bytes-small, to_be_bytes-from_be_bytes)

pub IsSigned-fits : (w : Width) (bs : List ℕ) (v : ℤ) → AreBytes bs → IsSigned w bs v
    → FitsSigned w v
IsSigned-fits w bs v h is = grind (arith, sfits_to_z, from_be_bytes-small)

-- the bytes of an unsigned number decode to it
pub IsUnsigned-to_be_bytes : (w : Width) (n : ℕ) → n < 2 ^ bits w → IsUnsigned w (to_be_bytes w n) n
IsUnsigned-to_be_bytes w n small = grind (arith, length-to_be_bytes, from_be_bytes-to_be_bytes)

pub to_be_bytes-IsUnsigned : (w : Width) (bs : List ℕ) (n : ℕ) → AreBytes bs → IsUnsigned w bs n
    → to_be_bytes w n ≡ bs
to_be_bytes-IsUnsigned w bs n h is = grind (arith, to_be_bytes-from_be_bytes)

pub IsUnsigned-small : (w : Width) (bs : List ℕ) (n : ℕ) → AreBytes bs → IsUnsigned w bs n
    → n < 2 ^ bits w
IsUnsigned-small w bs n h is =
    grind (arith, from_be_bytes-small)
