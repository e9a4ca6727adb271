-- A written payload means what was written, and what a payload of bytes means is in the range of
-- its type.
use Rattle.std.proofs.Common.{◌≡◌, ◌≤◌, ◌<◌, ◌^◌, ◌*ℤ◌, ℕ, ℤ, zero, suc, pos, negsuc, List, []}
use Rattle.std.proofs.Common.{◌∷◌, ◌++◌, Bool, true, false, if◌then◌else◌, refl, inl}
use Rattle.std.proofs.Common.{inr, arith, le_trans}
use Rattle.std.proofs.Math.Pow.{pow_mono}
use lib.Signed.{mag}
use lib.IntN.{neg_ℤ}
use Rattle.std.specs.Prelude.{FitsSigned}
use Rattle.std.proofs.lemmas.Bool.{ltb-true}
use Rattle.std.specs.Int.{Width, w8, w32, w64, w128}
use mir.Val.{hbits}
use Rattle.jsonb_value.specs.declared.number.Number.{Number}
use Rattle.jsonb_value.specs.declared.number.Number.TheVariants.{Int64, UInt64, Decimal64}
use Rattle.jsonb_value.specs.declared.number.Number.TheVariants.{Decimal128}
use Rattle.jsonb_value.specs.Payload.{IsSigned, IsSignedNumber, IsUnsignedNumber}
use Rattle.jsonb_value.specs.NumCode.{NumCode, IsDecimal, IsOldDecimal, signed_bytes, is_within}
use Rattle.jsonb_value.specs.NumCode.{shortest_signed, shortest_unsigned, number_payload}
use Rattle.jsonb_value.specs.Norm.{norm_number}
use Rattle.jsonb_value.specs.WellFormed.{IsNumber, IsExtension}
use Rattle.jsonb_value.specs.Tree.{Extension, binary, date, timestamp, timestamp_tz, interval}
use Rattle.jsonb_value.specs.Tree.{opaque}
use Rattle.jsonb_value.specs.ExtCode.{ExtCode, extension_payload}
use Rattle.jsonb_value.proofs.BigEndian.{AreBytes, AreBytes-equal, AreBytes-front, AreBytes-back}
use Rattle.jsonb_value.proofs.BigEndian.{IsSigned-signed_bytes, IsSigned-fits}
use Rattle.jsonb_value.proofs.BigEndian.{IsUnsigned-to_be_bytes, IsUnsigned-small}

-- a property of both branches holds for the conditional
pub by_test : {A : Type 0} (P : A → Type 0) (b : Bool) (x y : A) → (b ≡ true → P x)
    → (b ≡ false → P y) → P (if b then x else y)
by_test P b x y passed failed = grind arith

pub fits_within : (w : Width) (v : ℤ) → is_within (hbits w) v ≡ true → FitsSigned w v
fits_within w v e = grind (arith, ltb-true)

IsSignedNumber-shortest : (v : ℤ) → FitsSigned w64 v → IsSignedNumber (shortest_signed v) v
IsSignedNumber-shortest v fits = grind (arith, by_test, IsSigned-signed_bytes, fits_within)

IsUnsignedNumber-shortest : (n : ℕ) → n < 2 ^ 64 → IsUnsignedNumber (shortest_unsigned n) n
IsUnsignedNumber-shortest n small = grind (arith, by_test, IsUnsigned-to_be_bytes, ltb-true)

-- the payload written for a number means it, with a signed zero made unsigned
pub NumCode-number_payload : (x : Number) → IsNumber x → NumCode (number_payload x) (norm_number x)
NumCode-number_payload (Int64 (pos zero)) h = inl (refl, refl)
NumCode-number_payload (Int64 (pos (suc n))) h = grind (arith, IsSignedNumber-shortest)
NumCode-number_payload (Int64 (negsuc n)) h = grind (arith, IsSignedNumber-shortest)
NumCode-number_payload (UInt64 zero) h = inl (refl, refl)
NumCode-number_payload (UInt64 (suc n)) h = grind (arith, IsUnsignedNumber-shortest)
NumCode-number_payload (Decimal64 d) h =
    (_, (refl, (signed_bytes w64 d.value, (refl, IsSigned-signed_bytes w64 d.value h.0))))
NumCode-number_payload (Decimal128 d) h =
    (_, (refl, inl (signed_bytes w128 d.value, (refl, IsSigned-signed_bytes w128 d.value h.0))))

pub number_payload-norm_number : (x : Number) → number_payload (norm_number x) ≡ number_payload x
number_payload-norm_number x = grind arith

-- the payload written for an extension value means it
pub ExtCode-extension_payload : (e : Extension) → IsExtension e → ExtCode (extension_payload e) e
ExtCode-extension_payload (binary bytes) h = refl
ExtCode-extension_payload (date d) h = grind (arith, IsSigned-signed_bytes)
ExtCode-extension_payload (timestamp t) h = grind (arith, IsSigned-signed_bytes)
ExtCode-extension_payload (timestamp_tz t) h = (
  _,
  (
    refl,
    inl record {
      value_bytes = signed_bytes w64 t.value;
      offset_bytes = signed_bytes w32 t.offset;
      parts = refl;
      value = IsSigned-signed_bytes w64 t.value h.0;
      offset = IsSigned-signed_bytes w32 t.offset h.1;
    },
  ),
)
ExtCode-extension_payload (interval i) h = (
  _,
  (
    refl,
    record {
      month_bytes = signed_bytes w32 i.months;
      day_bytes = signed_bytes w32 i.days;
      micro_bytes = signed_bytes w64 i.micros;
      parts = refl;
      months = IsSigned-signed_bytes w32 i.months h.0;
      days = IsSigned-signed_bytes w32 i.days h.1.0;
      micros = IsSigned-signed_bytes w64 i.micros h.1.1;
    },
  ),
)
ExtCode-extension_payload (opaque tag bytes) h = (h.0, refl)

-- a signed number in at most 64 bits fits 64 bits
signed_within : (w : Width) (bs : List ℕ) (v : ℤ) → hbits w ≤ 63 → AreBytes bs → IsSigned w bs v
    → FitsSigned w64 v
signed_within w bs v narrow h is = wider (IsSigned-fits w bs v h is)
  where
    wider : FitsSigned w v → FitsSigned w64 v
    wider f = record { sfits = le_trans f.sfits (pow_mono narrow) }

IsNumber-signed : (bs : List ℕ) (v : ℤ) → AreBytes bs → IsSignedNumber bs v → FitsSigned w64 v
IsNumber-signed bs v h k = grind (arith, signed_within)

IsNumber-unsigned : (bs : List ℕ) (n : ℕ) → AreBytes bs → IsUnsignedNumber bs n → n < 2 ^ 64
IsNumber-unsigned bs n h k = grind (arith, IsUnsigned-small)

IsDecimal-within : (w : Width) (bs : List ℕ) (v : ℤ) (s : ℕ) → AreBytes bs → IsDecimal w bs v s
    → FitsSigned w v × (s < 2 ^ 8)
IsDecimal-within w bs v s h (front, (e, is)) =
    let parts = AreBytes-equal bs (front ++ s ∷ []) e h in (
      IsSigned-fits w front v (AreBytes-front front (s ∷ []) parts) is,
      AreBytes-back front
          (s ∷ []) parts 0,
    )

IsOldDecimal-within : (bs : List ℕ) (v : ℤ) (s : ℕ) → AreBytes bs → IsOldDecimal bs v s
    → FitsSigned w128 v × (s < 2 ^ 8)
IsOldDecimal-within bs v s h (front, (p, (e, is))) =
    let parts = AreBytes-equal bs (front ++ p ∷ (s ∷ [])) e h in (
      IsSigned-fits w128 front v (AreBytes-front front (p ∷ (s ∷ [])) parts) is,
      AreBytes-back front
          (p ∷ (s ∷ [])) parts 1,
    )

pub after_tag : (p rest : List ℕ) (tag : ℕ) → p ≡ tag ∷ rest → AreBytes p → AreBytes rest
after_tag p rest tag e h = λ i. AreBytes-equal p (tag ∷ rest) e h (suc i)

-- a number's payload means a number in the range of its type
pub IsNumber-NumCode : (p : List ℕ) (x : Number) → AreBytes p → NumCode p x → IsNumber x
IsNumber-NumCode p (Int64 v) h (rest, (e, is)) =
    IsNumber-signed rest v (after_tag p rest 64 e h) is
IsNumber-NumCode p (UInt64 n) h (inl (e, z)) = omega arith
IsNumber-NumCode p (UInt64 n) h (inr (rest, (e, is))) =
    IsNumber-unsigned rest n (after_tag p rest 80 e h) is
IsNumber-NumCode p (Decimal64 d) h (rest, (e, is)) =
    IsDecimal-within w64 rest d.value d.scale (after_tag p rest 112 e h) is
IsNumber-NumCode p (Decimal128 d) h (rest, (e, inl is)) =
    IsDecimal-within w128 rest d.value d.scale (after_tag p rest 112 e h) is
IsNumber-NumCode p (Decimal128 d) h (rest, (e, inr is)) =
    IsOldDecimal-within rest d.value d.scale (after_tag p rest 112 e h) is

mag-neg_ℤ : (m : ℕ) → mag (neg_ℤ (pos m)) ≤ m
mag-neg_ℤ m = grind arith

hours_within : (hours : ℤ) → FitsSigned w8 hours → FitsSigned w32 (hours *ℤ pos 3600)
hours_within hours f = grind (arith, mag-neg_ℤ)

-- an extension value's payload means fields in the range of their types
pub IsExtension-ExtCode : (p : List ℕ) (e : Extension) → AreBytes p → ExtCode p e → IsExtension e
IsExtension-ExtCode p (binary bytes) h c = tt
IsExtension-ExtCode p (date d) h (rest, (e, is)) = grind (arith, IsSigned-fits, after_tag)
IsExtension-ExtCode p (timestamp t) h (rest, (e, is)) = grind (arith, IsSigned-fits, after_tag)
IsExtension-ExtCode p (timestamp_tz t) h (rest, (e, inl z)) =
    grind (arith, AreBytes-equal, after_tag, IsSigned-fits, AreBytes-front, AreBytes-back)
IsExtension-ExtCode p (timestamp_tz t) h (rest, (e, inr z)) =
    grind (
      arith,
      AreBytes-equal,
      after_tag,
      IsSigned-fits,
      AreBytes-front,
      hours_within,
      AreBytes-back,
    )
IsExtension-ExtCode p (interval i) h (rest, (e, v)) =
    grind (arith, AreBytes-equal, after_tag, AreBytes-back, IsSigned-fits, AreBytes-front)
IsExtension-ExtCode p (opaque tag bytes) h (known, e) =
    (known, AreBytes-equal p (tag ∷ bytes) e h 0)
