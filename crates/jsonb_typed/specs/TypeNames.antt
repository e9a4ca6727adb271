-- The names of types of columns.
use Rattle.std.specs.Prelude.{◌≡◌, ◌⊎◌, ◌<◌, ◌==◌, ◌++◌, ℕ, Bool, List, Option, None, Some}
use Rattle.std.specs.Prelude.{codes, decimal, bytes_eq, if◌then◌else◌, option_map}
use Rattle.std.specs.List.{after_first, before_first}
use Rattle.std.specs.Str.Parse.{IsNumeral, digits_value, without_leading_plus}
use Rattle.jsonb_typed.specs.declared.lattice.LeastType.{LeastType}
use Rattle.jsonb_typed.specs.declared.lattice.LeastType.TheVariants as types
use Rattle.jsonb_typed.specs.declared.scalar.ScalarType.{ScalarType}
use Rattle.jsonb_typed.specs.declared.scalar.ScalarType.TheVariants as scalars

-- Words end at a space.
abbrev pub ends_word : ℕ → Bool
ends_word b = b == 32

-- The scale that decimal digits, which may follow a plus sign, mean.
abbrev pub scale_of_digits : List ℕ → ℕ
scale_of_digits digits = digits_value 10 (without_leading_plus digits)

-- They are a scale, at most 255.
abbrev pub IsScale : List ℕ → Type 0
IsScale digits = IsNumeral 10 (without_leading_plus digits) × (scale_of_digits digits < 256)

-- The word of a type of scalars.
abbrev pub scalar_type_word : ScalarType → List ℕ
scalar_type_word scalars.Boolean = codes "boolean"
scalar_type_word scalars.Int64 = codes "int64"
scalar_type_word scalars.UInt64 = codes "uint64"
scalar_type_word (scalars.Decimal scale) = codes "decimal"
scalar_type_word scalars.Text = codes "text"
scalar_type_word scalars.Date = codes "date"
scalar_type_word scalars.Timestamp = codes "timestamp"
scalar_type_word scalars.ZonedTimestamp = codes "timestamp_tz"
scalar_type_word scalars.Interval = codes "interval"
scalar_type_word scalars.Binary = codes "binary"

-- The word of a type, but for the scale of decimals.
abbrev pub type_word : LeastType → List ℕ
type_word types.Nothing = codes "nothing"
type_word (types.Of type) = scalar_type_word type
type_word types.Mixed = codes "mixed"

-- The name of a type.
abbrev pub type_text : LeastType → List ℕ
type_text (types.Of (scalars.Decimal scale)) = codes "decimal " ++ decimal scale
type_text other_type = type_word other_type

-- The type of scalars of this word, but decimals.
abbrev pub scalar_type_named : List ℕ → Option ScalarType
scalar_type_named name =
    if bytes_eq name (codes "boolean") then Some scalars.Boolean
    else if bytes_eq name (codes "int64") then Some scalars.Int64
    else if bytes_eq name (codes "uint64") then Some scalars.UInt64
    else if bytes_eq name (codes "text") then Some scalars.Text
    else if bytes_eq name (codes "date") then Some scalars.Date
    else if bytes_eq name (codes "timestamp") then Some scalars.Timestamp
    else if bytes_eq name (codes "timestamp_tz") then Some scalars.ZonedTimestamp
    else if bytes_eq name (codes "interval") then Some scalars.Interval
    else if bytes_eq name (codes "binary") then Some scalars.Binary
    else None

-- The type of this word, but decimals.
abbrev pub type_named : List ℕ → Option LeastType
type_named name =
    if bytes_eq name (codes "nothing") then Some types.Nothing
    else if bytes_eq name (codes "mixed") then Some types.Mixed
    else option_map types.Of (scalar_type_named name)

-- The text names this type: `decimal` and a scale, or a word.
abbrev pub IsType : List ℕ → LeastType → Type 0
IsType text type =
    ((before_first ends_word text ≡ codes "decimal")
    × (IsScale (after_first ends_word text)
    × (type ≡ types.Of (scalars.Decimal (scale_of_digits (after_first ends_word text))))))
    ⊎ (type_named (before_first ends_word text) ≡ Some type)
