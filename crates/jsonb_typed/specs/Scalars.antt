-- The types of scalars, their bytes, and which values of them stand for which members.
use Rattle.std.specs.Prelude.{◌≡◌, ℕ, ℤ, Bool, List, [], ◌∷◌}
use Rattle.jsonb_value.specs.Tree as trees
use Rattle.jsonb_value.specs.Tree.{Tree}
use Rattle.jsonb_value.specs.declared.extension.Date.{Date}
use Rattle.jsonb_value.specs.declared.extension.Interval.{Interval}
use Rattle.jsonb_value.specs.declared.extension.Timestamp.{Timestamp}
use Rattle.jsonb_value.specs.declared.extension.TimestampTz.{TimestampTz}
use Rattle.jsonb_typed.specs.declared.numbers.Fit.{Fit}
use Rattle.jsonb_typed.specs.declared.scalar.ScalarType.{ScalarType}
use Rattle.jsonb_typed.specs.declared.scalar.ScalarType.TheVariants as types
use Rattle.jsonb_typed.specs.Types.{IsBinary, IsDecimalAt, IsInt64, IsText, IsUInt64}

-- The code of a type, and the scale of decimals.
abbrev pub type_bytes : ScalarType → List ℕ
type_bytes types.Boolean = 0 ∷ 0 ∷ []
type_bytes types.Int64 = 1 ∷ 0 ∷ []
type_bytes types.UInt64 = 2 ∷ 0 ∷ []
type_bytes (types.Decimal scale) = 3 ∷ scale ∷ []
type_bytes types.Text = 4 ∷ 0 ∷ []
type_bytes types.Date = 5 ∷ 0 ∷ []
type_bytes types.Timestamp = 6 ∷ 0 ∷ []
type_bytes types.ZonedTimestamp = 7 ∷ 0 ∷ []
type_bytes types.Interval = 8 ∷ 0 ∷ []
type_bytes types.Binary = 9 ∷ 0 ∷ []

-- The values of a type.
abbrev pub ScalarOf : ScalarType → Type 0
ScalarOf types.Boolean = Bool
ScalarOf types.Int64 = ℤ
ScalarOf types.UInt64 = ℕ
ScalarOf (types.Decimal scale) = ℤ
ScalarOf types.Text = List ℕ
ScalarOf types.Date = Date
ScalarOf types.Timestamp = Timestamp
ScalarOf types.ZonedTimestamp = TimestampTz
ScalarOf types.Interval = Interval
ScalarOf types.Binary = List ℕ

-- The value stands for the member, as in the columns of the type.
abbrev pub Stands : Fit → (type : ScalarType) → ScalarOf type → Tree → Type 0
Stands fit types.Boolean v t = t ≡ trees.boolean v
Stands fit types.Int64 v t = IsInt64 fit v t
Stands fit types.UInt64 n t = IsUInt64 fit n t
Stands fit (types.Decimal scale) v t = IsDecimalAt fit scale v t
Stands fit types.Text s t = IsText s t
Stands fit types.Date d t = t ≡ trees.extension (trees.date d)
Stands fit types.Timestamp s t = t ≡ trees.extension (trees.timestamp s)
Stands fit types.ZonedTimestamp s t = t ≡ trees.extension (trees.timestamp_tz s)
Stands fit types.Interval i t = t ≡ trees.extension (trees.interval i)
Stands fit types.Binary s t = IsBinary s t

-- Some value of the type stands for the member.
abbrev pub IsOfScalarType : Fit → ScalarType → Tree → Type 0
IsOfScalarType fit types.Boolean t = (v : Bool) × (t ≡ trees.boolean v)
IsOfScalarType fit types.Int64 t = (v : ℤ) × IsInt64 fit v t
IsOfScalarType fit types.UInt64 t = (n : ℕ) × IsUInt64 fit n t
IsOfScalarType fit (types.Decimal scale) t = (v : ℤ) × IsDecimalAt fit scale v t
IsOfScalarType fit types.Text t = (s : List ℕ) × IsText s t
IsOfScalarType fit types.Date t = (d : Date) × (t ≡ trees.extension (trees.date d))
IsOfScalarType fit types.Timestamp t = (s : Timestamp) × (t ≡ trees.extension (trees.timestamp s))
IsOfScalarType fit types.ZonedTimestamp t =
    (s : TimestampTz) × (t ≡ trees.extension (trees.timestamp_tz s))
IsOfScalarType fit types.Interval t = (i : Interval) × (t ≡ trees.extension (trees.interval i))
IsOfScalarType fit types.Binary t = (s : List ℕ) × IsBinary s t
