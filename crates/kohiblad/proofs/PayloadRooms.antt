-- A canonical payload is no longer than any that means the same, but for zones in hours.
use Rattle.std.proofs.Common.{◌≡◌, ℕ, zero, suc, ℤ, pos, negsuc, ◌+◌, ◌*◌, ◌≤◌, ◌^◌, List, []}
use Rattle.std.proofs.Common.{◌∷◌, ◌++◌, length, Bool, true, false, if◌then◌else◌, nat_lt, inl, inr}
use Rattle.std.proofs.Common.{arith, length-append, ap}
use Rattle.std.specs.Prelude.{FitsSigned}
use Rattle.std.specs.Int.{Width, w8, w16, w32, w64, w128, byte_len, to_be_bytes, cast_unsigned}
use Rattle.std.proofs.lemmas.Bool.{lt-ltb}
use Rattle.jsonb_value.specs.declared.number.Number.{Number}
use Rattle.jsonb_value.specs.declared.number.Number.TheVariants.{Int64, UInt64, Decimal64}
use Rattle.jsonb_value.specs.declared.number.Number.TheVariants.{Decimal128}
use Rattle.jsonb_value.specs.Payload.{IsSignedNumber, IsUnsignedNumber}
use Rattle.jsonb_value.specs.NumCode.{NumCode, signed_bytes, is_within, shortest_signed}
use Rattle.jsonb_value.specs.NumCode.{shortest_unsigned, number_payload}
use Rattle.jsonb_value.specs.ExtCode.{ExtCode, extension_payload}
use Rattle.jsonb_value.specs.Tree.{Extension, binary, date, timestamp, timestamp_tz, interval}
use Rattle.jsonb_value.specs.Tree.{opaque}
use Rattle.jsonb_value.proofs.BigEndian.{AreBytes, AreBytes-back, AreBytes-equal, length-to_be_bytes}
use Rattle.jsonb_value.proofs.BigEndian.{IsSigned-fits, IsUnsigned-small}

len : (w : Width) (v : ℤ) → length (signed_bytes w v) ≡ byte_len w
len w v = length-to_be_bytes w (cast_unsigned w v)

-- the shortest width that is tested first
signed_1 : (v : ℤ) (a b c : Bool) → a ≡ true
    → length (if a then signed_bytes w8 v else if b then signed_bytes w16 v
    else if c then signed_bytes w32 v else signed_bytes w64 v) ≤ 1
signed_1 v true b c is = omega (arith, len w8 v)
signed_1 v false b c is = absurd cc

signed_2 : (v : ℤ) (a b c : Bool) → b ≡ true
    → length (if a then signed_bytes w8 v else if b then signed_bytes w16 v
    else if c then signed_bytes w32 v else signed_bytes w64 v) ≤ 2
signed_2 v true b c is = omega (arith, len w8 v)
signed_2 v false true c is = omega (arith, len w16 v)
signed_2 v false false c is = absurd cc

signed_4 : (v : ℤ) (a b c : Bool) → c ≡ true
    → length (if a then signed_bytes w8 v else if b then signed_bytes w16 v
    else if c then signed_bytes w32 v else signed_bytes w64 v) ≤ 4
signed_4 v true b c is = omega (arith, len w8 v)
signed_4 v false true c is = omega (arith, len w16 v)
signed_4 v false false true is = omega (arith, len w32 v)
signed_4 v false false false is = absurd cc

signed_8 : (v : ℤ) (a b c : Bool)
    → length (if a then signed_bytes w8 v else if b then signed_bytes w16 v
    else if c then signed_bytes w32 v else signed_bytes w64 v) ≤ 8
signed_8 v true b c = omega (arith, len w8 v)
signed_8 v false true c = omega (arith, len w16 v)
signed_8 v false false true = omega (arith, len w32 v)
signed_8 v false false false = omega (arith, len w64 v)

within_8 : (v : ℤ) → FitsSigned w8 v → is_within 7 v ≡ true
within_8 v fits = grind (arith, lt-ltb)

within_16 : (v : ℤ) → FitsSigned w16 v → is_within 15 v ≡ true
within_16 v fits = grind (arith, lt-ltb)

within_32 : (v : ℤ) → FitsSigned w32 v → is_within 31 v ≡ true
within_32 v fits = grind (arith, lt-ltb)

signed_len : (bs : List ℕ) (v : ℤ) → AreBytes bs → IsSignedNumber bs v
    → length (shortest_signed v) ≤ length bs
signed_len bs v h (inl is) =
    let short = signed_1 v (is_within 7 v) (is_within 15 v) (is_within 31 v)
    (within_8 v (IsSigned-fits w8 bs v h is)) in omega (arith, short, is.len)
signed_len bs v h (inr (inl is)) =
    let short = signed_2 v (is_within 7 v) (is_within 15 v) (is_within 31 v)
    (within_16 v (IsSigned-fits w16 bs v h is)) in omega (arith, short, is.len)
signed_len bs v h (inr (inr (inl is))) =
    let short = signed_4 v (is_within 7 v) (is_within 15 v) (is_within 31 v)
    (within_32 v (IsSigned-fits w32 bs v h is)) in omega (arith, short, is.len)
signed_len bs v h (inr (inr (inr is))) =
    let short = signed_8 v (is_within 7 v) (is_within 15 v) (is_within 31 v) in
    omega (arith, short, is.len)

unsigned_1 : (n : ℕ) (a b c : Bool) → a ≡ true
    → length (if a then to_be_bytes w8 n else if b then to_be_bytes w16 n
    else if c then to_be_bytes w32 n else to_be_bytes w64 n) ≤ 1
unsigned_1 n true b c is = omega (arith, length-to_be_bytes w8 n)
unsigned_1 n false b c is = absurd cc

unsigned_2 : (n : ℕ) (a b c : Bool) → b ≡ true
    → length (if a then to_be_bytes w8 n else if b then to_be_bytes w16 n
    else if c then to_be_bytes w32 n else to_be_bytes w64 n) ≤ 2
unsigned_2 n true b c is = omega (arith, length-to_be_bytes w8 n)
unsigned_2 n false true c is = omega (arith, length-to_be_bytes w16 n)
unsigned_2 n false false c is = absurd cc

unsigned_4 : (n : ℕ) (a b c : Bool) → c ≡ true
    → length (if a then to_be_bytes w8 n else if b then to_be_bytes w16 n
    else if c then to_be_bytes w32 n else to_be_bytes w64 n) ≤ 4
unsigned_4 n true b c is = omega (arith, length-to_be_bytes w8 n)
unsigned_4 n false true c is = omega (arith, length-to_be_bytes w16 n)
unsigned_4 n false false true is = omega (arith, length-to_be_bytes w32 n)
unsigned_4 n false false false is = absurd cc

unsigned_8 : (n : ℕ) (a b c : Bool)
    → length (if a then to_be_bytes w8 n else if b then to_be_bytes w16 n
    else if c then to_be_bytes w32 n else to_be_bytes w64 n) ≤ 8
unsigned_8 n true b c = omega (arith, length-to_be_bytes w8 n)
unsigned_8 n false true c = omega (arith, length-to_be_bytes w16 n)
unsigned_8 n false false true = omega (arith, length-to_be_bytes w32 n)
unsigned_8 n false false false = omega (arith, length-to_be_bytes w64 n)

unsigned_len : (bs : List ℕ) (n : ℕ) → AreBytes bs → IsUnsignedNumber bs n
    → length (shortest_unsigned n) ≤ length bs
unsigned_len bs n h (inl is) =
    let short = unsigned_1 n (nat_lt n (2 ^ 8)) (nat_lt n (2 ^ 16)) (nat_lt n (2 ^ 32))
    (lt-ltb n (2 ^ 8) (IsUnsigned-small w8 bs n h is)) in omega (arith, short, is.len)
unsigned_len bs n h (inr (inl is)) =
    let short = unsigned_2 n (nat_lt n (2 ^ 8)) (nat_lt n (2 ^ 16)) (nat_lt n (2 ^ 32))
    (lt-ltb n (2 ^ 16) (IsUnsigned-small w16 bs n h is)) in omega (arith, short, is.len)
unsigned_len bs n h (inr (inr (inl is))) =
    let short = unsigned_4 n (nat_lt n (2 ^ 8)) (nat_lt n (2 ^ 16)) (nat_lt n (2 ^ 32))
    (lt-ltb n (2 ^ 32) (IsUnsigned-small w32 bs n h is)) in omega (arith, short, is.len)
unsigned_len bs n h (inr (inr (inr is))) =
    let short = unsigned_8 n (nat_lt n (2 ^ 8)) (nat_lt n (2 ^ 16)) (nat_lt n (2 ^ 32)) in
    omega (arith, short, is.len)

-- the bytes after a tag
after : (p rest : List ℕ) (tag : ℕ) → p ≡ tag ∷ rest → AreBytes p → AreBytes rest
after p rest tag e h = AreBytes-back (tag ∷ []) rest (AreBytes-equal p (tag ∷ rest) e h)

pub number_len : (p : List ℕ) (x : Number) → AreBytes p → NumCode p x
    → length (number_payload x) ≤ length p
number_len p (Int64 (pos zero)) h (rest, (e, is)) = omega (arith, ap length e)
number_len p (Int64 (pos (suc n))) h (rest, (e, is)) =
    let short = signed_len rest (pos (suc n)) (after p rest 64 e h) is in
    omega (arith, ap length e, short)
number_len p (Int64 (negsuc n)) h (rest, (e, is)) =
    let short = signed_len rest (negsuc n) (after p rest 64 e h) is in
    omega (arith, ap length e, short)
number_len p (UInt64 zero) h (inl (e, z)) = omega (arith, ap length e)
number_len p (UInt64 (suc n)) h (inl (e, z)) = absurd cc
number_len p (UInt64 zero) h (inr (rest, (e, is))) = omega (arith, ap length e)
number_len p (UInt64 (suc n)) h (inr (rest, (e, is))) =
    let short = unsigned_len rest (suc n) (after p rest 80 e h) is in
    omega (arith, ap length e, short)
number_len p (Decimal64 d) h (rest, (e, (front, (f, is)))) =
    let all = length-append (signed_bytes w64 d.value) (d.scale ∷ []) in
    let given = length-append front (d.scale ∷ []) in
    omega (arith, ap length e, ap length f, is.len, all, given, len w64 d.value)
number_len p (Decimal128 d) h (rest, (e, inl (front, (f, is)))) =
    let all = length-append (signed_bytes w128 d.value) (d.scale ∷ []) in
    let given = length-append front (d.scale ∷ []) in
    omega (arith, ap length e, ap length f, is.len, all, given, len w128 d.value)
number_len p (Decimal128 d) h (rest, (e, inr (front, (precision, (f, is))))) =
    let all = length-append (signed_bytes w128 d.value) (d.scale ∷ []) in
    let given = length-append front (precision ∷ (d.scale ∷ [])) in
    omega (arith, ap length e, ap length f, is.len, all, given, len w128 d.value)

-- A zone in hours takes 3 bytes more, of 10.
pub extension_len : (p : List ℕ) (e : Extension) → ExtCode p e
    → 4 * length (extension_payload e) ≤ 5 * length p + 2
extension_len p (binary bytes) h = omega (arith, ap length h)
extension_len p (date d) (rest, (e, is)) =
    omega (arith, ap length e, is.len, len w32 d.value)
extension_len p (timestamp t) (rest, (e, is)) =
    omega (arith, ap length e, is.len, len w64 t.value)
extension_len p (timestamp_tz t) (rest, (e, inl is)) =
    let all = length-append (signed_bytes w64 t.value) (signed_bytes w32 t.offset) in
    let given = length-append is.value_bytes is.offset_bytes in
    omega (
      arith,
      ap length e,
      ap length is.parts,
      is.value.len,
      is.offset.len,
      all,
      given,
      len w64 t.value,
      len w32 t.offset,
    )
extension_len p (timestamp_tz t) (rest, (e, inr is)) =
    let all = length-append (signed_bytes w64 t.value) (signed_bytes w32 t.offset) in
    let given = length-append is.value_bytes is.hour_bytes in
    omega (
      arith,
      ap length e,
      ap length is.parts,
      is.value.len,
      is.hour.len,
      all,
      given,
      len w64 t.value,
      len w32 t.offset,
    )
extension_len p (interval i) (rest, (e, is)) =
    let all = length-append (signed_bytes w32 i.months)
    (signed_bytes w32 i.days ++ signed_bytes w64 i.micros) in
    let more = length-append (signed_bytes w32 i.days) (signed_bytes w64 i.micros) in
    let given = length-append is.month_bytes (is.day_bytes ++ is.micro_bytes) in
    let last = length-append is.day_bytes is.micro_bytes in
    omega (
      arith,
      ap length e,
      ap length is.parts,
      is.months.len,
      is.days.len,
      is.micros.len,
      all,
      more,
      given,
      last,
      len w32 i.months,
      len w32 i.days,
      len w64 i.micros,
    )
extension_len p (opaque tag bytes) (is, e) = omega (arith, ap length e)
