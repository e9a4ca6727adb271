-- What the payload of an extension value means, and the payload that is written for it.
use Rattle.std.specs.Prelude.{◌≡◌, ◌⊎◌, ◌*ℤ◌, ◌%◌, ℕ, ℤ, pos, List, [], ◌∷◌, ◌++◌}
use Rattle.std.specs.Int.{w8, w32, w64}
use Rattle.jsonb_value.specs.declared.extension.TimestampTz.{TimestampTz}
use Rattle.jsonb_value.specs.declared.extension.Interval.{Interval}
use Rattle.jsonb_value.specs.declared.opaque.Opaque.{Opaque}
use Rattle.jsonb_value.specs.declared.extension.ExtensionValue.{ExtensionValue}
use Rattle.jsonb_value.specs.declared.extension.ExtensionValue.TheVariants as values
use Rattle.jsonb_value.specs.Payload.{IsSigned}
use Rattle.jsonb_value.specs.NumCode.{Tagged, signed_bytes}
use Rattle.jsonb_value.specs.Opaque.{IsOpaqueTag}
use Rattle.jsonb_value.specs.Tree.{Extension, binary, date, timestamp, timestamp_tz, interval}
use Rattle.jsonb_value.specs.Tree.{opaque}

-- The tag of an opaque value.
abbrev pub opaque_tag : Opaque → ℕ
opaque_tag o = o.tag

-- The bytes of an opaque value, without its tag.
abbrev pub opaque_bytes : Opaque → List ℕ
opaque_bytes o = o.bytes.now

-- An extension value as part of a tree.
abbrev pub extension_of : ExtensionValue → Extension
extension_of (values.Binary bytes) = binary bytes.now
extension_of (values.Date d) = date d
extension_of (values.Timestamp t) = timestamp t
extension_of (values.TimestampTz t) = timestamp_tz t
extension_of (values.Interval i) = interval i
extension_of (values.Opaque o) = opaque (opaque_tag o) (opaque_bytes o)

-- The bytes are a timestamp of 8 bytes and its time zone's offset in seconds, of 4 bytes.
pub record IsZoned (bytes : List ℕ) (t : TimestampTz) : Type 0 where
  pub value_bytes : List ℕ
  pub offset_bytes : List ℕ
  pub parts : bytes ≡ value_bytes ++ offset_bytes
  pub value : IsSigned w64 value_bytes t.value
  pub offset : IsSigned w32 offset_bytes t.offset

-- The bytes are a timestamp of 8 bytes and its time zone's offset in hours, of 1 byte (the older
-- form).
pub record IsOldZoned (bytes : List ℕ) (t : TimestampTz) : Type 0 where
  pub value_bytes : List ℕ
  pub hour_bytes : List ℕ
  pub hours : ℤ
  pub parts : bytes ≡ value_bytes ++ hour_bytes
  pub value : IsSigned w64 value_bytes t.value
  pub hour : IsSigned w8 hour_bytes hours
  pub offset : t.offset ≡ hours *ℤ pos 3600

-- The bytes are months of 4 bytes, days of 4 bytes and microseconds of 8 bytes.
pub record IsInterval (bytes : List ℕ) (i : Interval) : Type 0 where
  pub month_bytes : List ℕ
  pub day_bytes : List ℕ
  pub micro_bytes : List ℕ
  pub parts : bytes ≡ month_bytes ++ (day_bytes ++ micro_bytes)
  pub months : IsSigned w32 month_bytes i.months
  pub days : IsSigned w32 day_bytes i.days
  pub micros : IsSigned w64 micro_bytes i.micros

-- The payload means the extension value.
abbrev pub ExtCode : List ℕ → Extension → Type 0
ExtCode p (binary bytes) = p ≡ 0 ∷ bytes
ExtCode p (date d) = Tagged 16 p (λ rest. IsSigned w32 rest d.value)
ExtCode p (timestamp t) = Tagged 32 p (λ rest. IsSigned w64 rest t.value)
ExtCode p (timestamp_tz t) = Tagged 48 p (λ rest. IsZoned rest t ⊎ IsOldZoned rest t)
ExtCode p (interval i) = Tagged 64 p (λ rest. IsInterval rest i)
ExtCode p (opaque tag bytes) = IsOpaqueTag tag × (p ≡ tag ∷ bytes)

-- The first byte is a tag of an extension value.
abbrev pub HasKnownTag : List ℕ → Type 0
HasKnownTag [] = ⊥
HasKnownTag (tag ∷ rest) = tag % 16 ≡ 0

-- The payload that is written for an extension value.
abbrev pub extension_payload : Extension → List ℕ
extension_payload (binary bytes) = 0 ∷ bytes
extension_payload (date d) = 16 ∷ signed_bytes w32 d.value
extension_payload (timestamp t) = 32 ∷ signed_bytes w64 t.value
extension_payload (timestamp_tz t) = 48 ∷ (signed_bytes w64 t.value ++ signed_bytes w32 t.offset)
extension_payload (interval i) =
    64 ∷ (signed_bytes w32 i.months ++ (signed_bytes w32 i.days ++ signed_bytes w64 i.micros))
extension_payload (opaque tag bytes) = tag ∷ bytes
