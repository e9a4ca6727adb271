-- A payload that means a number or an extension value is the written one exactly if it has the same
-- length.
use Rattle.std.proofs.Common.{◌⊎◌, ◌≡◌, ℕ, ℤ, zero, suc, pos, negsuc, List, [], ◌∷◌, ◌++◌}
use Rattle.std.proofs.Common.{length, inl, inr, sym, ap₂, ◌∙◌, arith}
use Rattle.std.proofs.Common.{length-append}
use Rattle.std.specs.Int.{Width, w8, w16, w32, w64, w128, byte_len, to_be_bytes}
use Rattle.jsonb_value.specs.declared.number.Number.{Number}
use Rattle.jsonb_value.specs.declared.number.Number.TheVariants.{Int64, UInt64, Decimal64}
use Rattle.jsonb_value.specs.declared.number.Number.TheVariants.{Decimal128}
use Rattle.jsonb_value.specs.declared.extension.TimestampTz.{TimestampTz}
use Rattle.jsonb_value.specs.declared.extension.Interval.{Interval}
use Rattle.jsonb_value.specs.Payload.{IsUnsigned, IsSigned, IsSignedNumber, IsUnsignedNumber}
use Rattle.jsonb_value.specs.NumCode.{NumCode, IsDecimal, signed_bytes, shortest_signed}
use Rattle.jsonb_value.specs.NumCode.{shortest_unsigned, number_payload}
use Rattle.jsonb_value.specs.Tree.{Extension, binary, date, timestamp, timestamp_tz, interval}
use Rattle.jsonb_value.specs.Tree.{opaque}
use Rattle.jsonb_value.specs.ExtCode.{ExtCode, IsZoned, IsInterval, extension_payload}
use Rattle.jsonb_value.proofs.Codes.{IsOldDecimal-length}
use Rattle.jsonb_value.proofs.BigEndian.{AreBytes, AreBytes-front, AreBytes-back}
use Rattle.jsonb_value.proofs.BigEndian.{length-to_be_bytes, signed_bytes-IsSigned}
use Rattle.jsonb_value.proofs.BigEndian.{to_be_bytes-IsUnsigned}
use Rattle.jsonb_value.proofs.PayloadLaws.{after_tag}
use Rattle.jsonb_value.proofs.PayloadDecision.{IsOldZoned-length}

same_width : (w x : Width) → byte_len w ≡ byte_len x → w ≡ x
same_width w x e = grind arith

-- what holds at one of the widths holds at the width of that length
at_width : (Is : Width → Type 0) (n : ℕ) → ((w : Width) → Is w → n ≡ byte_len w)
    → (w : Width) → n ≡ byte_len w → Is w8 ⊎ (Is w16 ⊎ (Is w32 ⊎ Is w64)) → Is w
at_width Is n len w e h = grind (arith, same_width)

-- bytes that decode to a number, in the width they are written in, are the number's bytes
signed_as_written : (w : Width) (bs : List ℕ) (v : ℤ) → AreBytes bs → IsSignedNumber bs v
    → length bs ≡ length (signed_bytes w v) → signed_bytes w v ≡ bs
signed_as_written w bs v h is long = signed_bytes-IsSigned w bs v h
    (at_width (λ x. IsSigned x bs v) (length bs) (λ x s. s.len) w
    (long ∙ length-to_be_bytes w _) is)

unsigned_as_written : (w : Width) (bs : List ℕ) (n : ℕ) → AreBytes bs → IsUnsignedNumber bs n
    → length bs ≡ length (to_be_bytes w n) → to_be_bytes w n ≡ bs
unsigned_as_written w bs n h is long = to_be_bytes-IsUnsigned w bs n h
    (at_width (λ x. IsUnsigned x bs n) (length bs) (λ x s. s.len) w
    (long ∙ length-to_be_bytes w n) is)

shortest_signed-written : (bs : List ℕ) (v : ℤ) → AreBytes bs → IsSignedNumber bs v
    → length bs ≡ length (shortest_signed v) → shortest_signed v ≡ bs
shortest_signed-written bs v h is long =
    let same = λ (w : Width). signed_as_written w bs v h is in
    grind (arith, same w8, same w16, same w32, same w64)

shortest_unsigned-written : (bs : List ℕ) (n : ℕ) → AreBytes bs → IsUnsignedNumber bs n
    → length bs ≡ length (shortest_unsigned n) → shortest_unsigned n ≡ bs
shortest_unsigned-written bs n h is long =
    let same = λ (w : Width). unsigned_as_written w bs n h is in
    grind (arith, same w8, same w16, same w32, same w64)

signed_payload : (p rest : List ℕ) (v : ℤ) → p ≡ 64 ∷ rest → AreBytes p → IsSignedNumber rest v
    → length p ≡ length (number_payload (Int64 v)) → number_payload (Int64 v) ≡ p
signed_payload p rest (pos zero) e h is long = grind arith
signed_payload p rest (pos (suc n)) e h is long =
    grind (arith, shortest_signed-written rest (pos (suc n)) (after_tag p rest 64 e h) is)
signed_payload p rest (negsuc n) e h is long =
    grind (arith, shortest_signed-written rest (negsuc n) (after_tag p rest 64 e h) is)

unsigned_payload : (p rest : List ℕ) (n : ℕ) → p ≡ 80 ∷ rest → AreBytes p → IsUnsignedNumber rest n
    → length p ≡ length (number_payload (UInt64 n)) → number_payload (UInt64 n) ≡ p
unsigned_payload p rest zero e h is long = grind arith
unsigned_payload p rest (suc n) e h is long =
    grind (arith, shortest_unsigned-written rest (suc n) (after_tag p rest 80 e h) is)

decimal_written : (w : Width) (bs : List ℕ) (v : ℤ) (s : ℕ) → AreBytes bs → IsDecimal w bs v s
    → signed_bytes w v ++ s ∷ [] ≡ bs
decimal_written w bs v s h (front, (e, is)) =
    rw (signed_bytes-IsSigned w front v (AreBytes-front front (s ∷ []) (rw e at h)) is) (sym e)

-- a payload as long as the written one is the written one
pub number_payload-NumCode : (p : List ℕ) (x : Number) → AreBytes p → NumCode p x
    → length p ≡ length (number_payload x) → number_payload x ≡ p
number_payload-NumCode p (Int64 v) h (rest, (e, is)) long = signed_payload p rest v e h is long
number_payload-NumCode p (UInt64 n) h (inl (e, z)) long = grind arith
number_payload-NumCode p (UInt64 n) h (inr (rest, (e, is))) long =
    unsigned_payload p rest n e h is long
number_payload-NumCode p (Decimal64 d) h (rest, (e, is)) long =
    cc (decimal_written w64 rest d.value d.scale (after_tag p rest 112 e h) is)
number_payload-NumCode p (Decimal128 d) h (rest, (e, inl is)) long =
    cc (decimal_written w128 rest d.value d.scale (after_tag p rest 112 e h) is)
number_payload-NumCode p (Decimal128 d) h (rest, (e, inr is)) long =
    grind (arith, IsOldDecimal-length, length-append, length-to_be_bytes)

zoned_written : (rest : List ℕ) (t : TimestampTz) → AreBytes rest → IsZoned rest t
    → signed_bytes w64 t.value ++ signed_bytes w32 t.offset ≡ rest
zoned_written rest t h z =
    let parts = rw z.parts at h in
    let value = AreBytes-front z.value_bytes z.offset_bytes parts in
    let offset = AreBytes-back z.value_bytes z.offset_bytes parts in
    ap₂ ◌++◌ (signed_bytes-IsSigned w64 z.value_bytes t.value value z.value)
    (signed_bytes-IsSigned w32 z.offset_bytes t.offset offset z.offset) ∙ sym z.parts

interval_written : (rest : List ℕ) (i : Interval) → AreBytes rest → IsInterval rest i
    → signed_bytes w32 i.months ++ (signed_bytes w32 i.days ++ signed_bytes w64 i.micros) ≡ rest
interval_written rest i h v =
    let parts = rw v.parts at h in
    let later = AreBytes-back v.month_bytes (v.day_bytes ++ v.micro_bytes) parts in
    let months = AreBytes-front v.month_bytes (v.day_bytes ++ v.micro_bytes) parts in
    let days = AreBytes-front v.day_bytes v.micro_bytes later in
    let micros = AreBytes-back v.day_bytes v.micro_bytes later in
    ap₂ ◌++◌ (signed_bytes-IsSigned w32 v.month_bytes i.months months v.months)
    (ap₂ ◌++◌ (signed_bytes-IsSigned w32 v.day_bytes i.days days v.days)
    (signed_bytes-IsSigned w64 v.micro_bytes i.micros micros v.micros)) ∙ sym v.parts

pub extension_payload-ExtCode : (p : List ℕ) (e : Extension) → AreBytes p → ExtCode p e
    → length p ≡ length (extension_payload e) → extension_payload e ≡ p
extension_payload-ExtCode p (binary bytes) h e long = sym e
extension_payload-ExtCode p (date d) h (rest, (e, is)) long =
    cc (signed_bytes-IsSigned w32 rest d.value (after_tag p rest 16 e h) is)
extension_payload-ExtCode p (timestamp t) h (rest, (e, is)) long =
    cc (signed_bytes-IsSigned w64 rest t.value (after_tag p rest 32 e h) is)
extension_payload-ExtCode p (timestamp_tz t) h (rest, (e, inl z)) long =
    cc (zoned_written rest t (after_tag p rest 48 e h) z)
extension_payload-ExtCode p (timestamp_tz t) h (rest, (e, inr z)) long =
    grind (arith, IsOldZoned-length, length-append, length-to_be_bytes)
extension_payload-ExtCode p (interval i) h (rest, (e, v)) long =
    cc (interval_written rest i (after_tag p rest 64 e h) v)
extension_payload-ExtCode p (opaque tag bytes) h (known, e) long = sym e
