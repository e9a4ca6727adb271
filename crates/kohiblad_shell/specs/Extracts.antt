-- Lines of a table with the values at paths, each as a value of a type.
use Rattle.std.specs.Prelude.{◌≡◌, ◌⊎◌, ℕ, Bool, List, [], ◌∷◌, ◌++◌, Any}
use Rattle.std.specs.Prelude.{Option, None, Some, Result, Ok, Err, decimal, false, true}
use Rattle.std.specs.Fmt.{signed_decimal}
use Rattle.std.specs.List.{AllZip, join_with_byte}
use Rattle.std.specs.declared.alloc.Global.{Global}
use Rattle.std.specs.declared.vec.Vec.{Vec}
use Rattle.jsonb_value.specs.Text.{compact, decimal_text, extension_text}
use Rattle.jsonb_value.specs.Tree as trees
use Rattle.jsonb_value.specs.Tree.{Tree}
use Rattle.jsonb_value.specs.declared.extension.Date.{Date}
use Rattle.jsonb_value.specs.declared.extension.Timestamp.{Timestamp}
use Rattle.jsonb_value.specs.declared.extension.TimestampTz.{TimestampTz}
use Rattle.kohiblad_shell.specs.Asked.{first_asked}
use Rattle.jsonb_typed.specs.Scalars.{ScalarOf, Stands}
use Rattle.jsonb_typed.specs.declared.lattice.LeastType.{LeastType}
use Rattle.jsonb_typed.specs.declared.lattice.LeastType.TheVariants as types
use Rattle.jsonb_typed.specs.declared.numbers.Fit.TheVariants.{ByValue}
use Rattle.jsonb_typed.specs.declared.scalar.ScalarType.{ScalarType}
use Rattle.jsonb_typed.specs.declared.scalar.ScalarType.TheVariants as scalars
use Rattle.kohiblad_shell.specs.declared.extract.TypedPath.{TypedPath}
use Rattle.kohiblad_shell.specs.declared.outcome.Reason.TheVariants.{NotOfType}
use Rattle.kohiblad_shell.specs.declared.outcome.LineFault.{LineFault}
use Rattle.kohiblad_shell.specs.declared.outcome.Unanswered.{Unanswered}
use Rattle.kohiblad_shell.specs.declared.outcome.Unanswered.TheVariants.{Wrong}
use Rattle.kohiblad_shell.specs.Faults.{plain_fault}
use Rattle.kohiblad_shell.specs.IsoForms.{IsDayText, IsWallText, IsZonedText}
use Rattle.kohiblad_shell.specs.IsoTexts.{SaysDate, SaysTimestamp, SaysZoned}
use Rattle.kohiblad_shell.specs.Outcomes.{Outcome}
use Rattle.kohiblad_shell.specs.TableTexts.{absent_field, separator, text_field}
use Rattle.kohiblad_shell.specs.declared.table.Table.{Table}
use Rattle.kohiblad_shell.specs.declared.table_text.TableLayout.{TableLayout}
use Rattle.kohiblad_shell.specs.declared.table_text.TableLayout.TheVariants.{Csv}

-- The text of a value in a column of a type.
abbrev pub plain_text : (type : ScalarType) → ScalarOf type → List ℕ
plain_text scalars.Boolean v = compact (trees.boolean v)
plain_text scalars.Int64 v = signed_decimal v
plain_text scalars.UInt64 n = decimal n
plain_text (scalars.Decimal scale) v = decimal_text scale v
plain_text scalars.Text s = s
plain_text scalars.Date d = extension_text (trees.date d)
plain_text scalars.Timestamp t = extension_text (trees.timestamp t)
plain_text scalars.ZonedTimestamp t = extension_text (trees.timestamp_tz t)
plain_text scalars.Interval i = extension_text (trees.interval i)
plain_text scalars.Binary bytes = extension_text (trees.binary bytes)

-- The field of a value in a column of a type. Only texts and binary values have quotes or escapes.
abbrev pub value_text : TableLayout → (type : ScalarType) → ScalarOf type → List ℕ
value_text layout scalars.Text s = text_field layout s
value_text layout scalars.Binary bytes = text_field layout (plain_text scalars.Binary bytes)
value_text layout type v = plain_text type v

-- The field is the text of a value that stands for the tree; there is none if no value does.
abbrev pub IsFieldBy : {V : Type 0} → (V → Tree → Type 0) → (V → List ℕ) → Tree
    → Option (List ℕ) → Type 0
IsFieldBy {V = V} Stands text t None = (v : V) → Stands v t → ⊥
IsFieldBy {V = V} Stands text t (Some field) = (v : V) × (Stands v t × (field ≡ text v))

-- The field shows a value that holds; there is none if no value does.
abbrev pub IsShownField : {V : Type 0} → (V → Type 0) → (V → List ℕ → Type 0)
    → Option (List ℕ) → Type 0
IsShownField {V = V} Holds Shows None = (v : V) → Holds v → ⊥
IsShownField {V = V} Holds Shows (Some field) = (v : V) × (Holds v × Shows v field)

-- The field shows a value that stands for the tree, or if this is a text the value that it says.
abbrev pub IsIsoField : {V : Type 0} → (V → Tree → Type 0) → (V → List ℕ → Type 0)
    → (V → List ℕ → Type 0) → Tree → Option (List ℕ) → Type 0
IsIsoField {V = V} Stands Says Shows (trees.text s) field =
    IsShownField {V = V} (λ v. Says v s) Shows field
IsIsoField {V = V} Stands Says Shows t field = IsShownField {V = V} (λ v. Stands v t) Shows field

-- The same if texts say dates, and else the text of a value that stands for the tree.
abbrev pub IsDatedField : {V : Type 0} → Bool → (V → Tree → Type 0) → (V → List ℕ → Type 0)
    → (V → List ℕ → Type 0) → (V → List ℕ) → Tree → Option (List ℕ) → Type 0
IsDatedField {V = V} true Stands Says Shows text t field =
    IsIsoField {V = V} Stands Says Shows t field
IsDatedField {V = V} false Stands Says Shows text t field =
    IsFieldBy {V = V} Stands text t field

-- The field is the text of a value if it has one, and else its number.
abbrev pub IsTextOr : (Option (List ℕ) → Type 0) → List ℕ → List ℕ → Type 0
IsTextOr Is number field = Is (Some field) ⊎ (Is None × (field ≡ number))

-- The field shows a date: by the text that says it, or by its number.
abbrev pub ShowsDate : Date → List ℕ → Type 0
ShowsDate d field = IsTextOr (IsDayText d.value) (plain_text scalars.Date d) field

-- The same of a timestamp without a zone.
abbrev pub ShowsTimestamp : Timestamp → List ℕ → Type 0
ShowsTimestamp t field = IsTextOr (IsWallText t.value) (plain_text scalars.Timestamp t) field

-- The same of a timestamp with a zone.
abbrev pub ShowsZoned : TimestampTz → List ℕ → Type 0
ShowsZoned t field = IsTextOr (IsZonedText t) (plain_text scalars.ZonedTimestamp t) field

-- The same for a type, in whose columns numbers stand by their values.
abbrev pub IsScalarField : TableLayout → Bool → ScalarType → Tree → Option (List ℕ) → Type 0
IsScalarField layout has_iso_dates scalars.Date t field =
    IsDatedField {V = Date} has_iso_dates (Stands ByValue scalars.Date) SaysDate
    ShowsDate (plain_text scalars.Date) t field
IsScalarField layout has_iso_dates scalars.Timestamp t field =
    IsDatedField {V = Timestamp} has_iso_dates (Stands ByValue scalars.Timestamp) SaysTimestamp
    ShowsTimestamp (plain_text scalars.Timestamp) t field
IsScalarField layout has_iso_dates scalars.ZonedTimestamp t field =
    IsDatedField {V = TimestampTz} has_iso_dates (Stands ByValue scalars.ZonedTimestamp) SaysZoned
    ShowsZoned (plain_text scalars.ZonedTimestamp) t field
IsScalarField layout has_iso_dates type t field =
    IsFieldBy {V = ScalarOf type} (Stands ByValue type) (value_text layout type) t field

-- The same for the type of a column. Of the first type nothing is a value. Each tree is of mixed
-- type, and its field is its compact text.
abbrev pub IsFieldOf : TableLayout → Bool → LeastType → Tree → Option (List ℕ) → Type 0
IsFieldOf layout has_iso_dates types.Nothing t field = field ≡ None
IsFieldOf layout has_iso_dates (types.Of type) t field =
    IsScalarField layout has_iso_dates type t field
IsFieldOf layout has_iso_dates types.Mixed t field = field ≡ Some (text_field layout (compact t))

-- The same of what a path leads to: the field is that of no value if that is nothing, or null.
abbrev pub IsField : TableLayout → Bool → LeastType → Option Tree → Option (List ℕ) → Type 0
IsField layout has_iso_dates type None field = field ≡ Some (absent_field layout)
IsField layout has_iso_dates type (Some trees.null) field = field ≡ Some (absent_field layout)
IsField layout has_iso_dates type (Some t) field = IsFieldOf layout has_iso_dates type t field

-- The same of the first value to which the path leads in a row.
abbrev pub IsFieldAt : TableLayout → Tree → TypedPath → Option (List ℕ) → Type 0
IsFieldAt layout t column field = IsField layout column.has_iso_dates column.value_type
    (first_asked column.path t) field

-- The line of a row has a field for each column, with the separator between them and a line feed at
-- the end. There is none if a value is not of the type of its column.
abbrev pub IsTableLine : TableLayout → List TypedPath → Tree → Option (List ℕ) → Type 0
IsTableLine layout columns t None = Any (λ column. IsFieldAt layout t column None) columns
IsTableLine layout columns t (Some line) = (fields : List (List ℕ))
    × (AllZip (λ column field. IsFieldAt layout t column (Some field)) columns fields
    × (line ≡ join_with_byte (separator layout) fields ++ 10 ∷ []))

-- The same as CSV.
abbrev pub IsCsvLine : List TypedPath → Tree → Option (List ℕ) → Type 0
IsCsvLine columns t line = IsTableLine Csv columns t line

-- The fault of a row that has no line.
abbrev pub not_of_type : LineFault
not_of_type = plain_fault 0 NotOfType

-- What a row gives: its line, or the fault that it has none.
abbrev pub IsExtracted : Table → Tree → Outcome → Type 0
IsExtracted table t (Ok line) = IsTableLine table.layout table.columns.now t (Some line)
IsExtracted table t (Err fault) =
    IsTableLine table.layout table.columns.now t None × (fault ≡ not_of_type)

-- The same line, or the fault that there is none.
abbrev pub IsTypedLine : Option (Vec ℕ Global) → Result (Vec ℕ Global) Unanswered → Type 0
IsTypedLine (Some line) result = result ≡ Ok line
IsTypedLine None result = result ≡ Err (Wrong not_of_type)
