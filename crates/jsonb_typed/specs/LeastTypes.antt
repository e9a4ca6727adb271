-- The least type of columns that holds all members.
use Rattle.std.specs.Prelude.{◌≡◌, ◌⊎◌, ⊤, ℕ, max, List, [], ◌∷◌, All, Option, None, Some}
use Rattle.jsonb_value.specs.Order.{fraction_of}
use Rattle.jsonb_value.specs.Tree as trees
use Rattle.jsonb_value.specs.Tree.{Tree}
use Rattle.jsonb.specs.declared.document.Document.{Document}
use Rattle.jsonb.specs.Document.{document_tree}
use Rattle.jsonb_functions.specs.declared.path.Step.{Step}
use Rattle.jsonb_functions.specs.Found.{found_at}
use Rattle.jsonb_typed.specs.declared.lattice.LeastType.{LeastType}
use Rattle.jsonb_typed.specs.declared.lattice.LeastType.TheVariants as types
use Rattle.jsonb_typed.specs.declared.numbers.Fit.{Fit}
use Rattle.jsonb_typed.specs.declared.scalar.ScalarType.TheVariants as scalars
use Rattle.jsonb_typed.specs.Scalars.{IsOfScalarType}

-- Some value of the type stands for the member; of the first type none does, and each member is of
-- mixed type.
abbrev pub IsValueOf : Fit → LeastType → Tree → Type 0
IsValueOf fit types.Nothing t = ⊥
IsValueOf fit (types.Of type) t = IsOfScalarType fit type t
IsValueOf fit types.Mixed t = ⊤

-- There is no member, or it is null, or a value of the type.
abbrev pub IsHeldIn : Fit → LeastType → Option Tree → Type 0
IsHeldIn fit type None = ⊤
IsHeldIn fit type (Some t) = (t ≡ trees.null) ⊎ IsValueOf fit type t

-- The same of the member of a row.
abbrev pub IsHeldAt : Fit → LeastType → List Step → Document → Type 0
IsHeldAt fit type path row = IsHeldIn fit type (found_at path (document_tree row))

-- The first of the types that holds the members of all rows; mixed, if none does.
abbrev pub IsFirstHeld : Fit → List Step → List Document → List LeastType → LeastType → Type 0
IsFirstHeld fit path rows [] found = found ≡ types.Mixed
IsFirstHeld fit path rows (type ∷ candidates) found =
    (All (IsHeldAt fit type path) rows × (found ≡ type))
    ⊎ ((All (IsHeldAt fit type path) rows → ⊥) × IsFirstHeld fit path rows candidates found)

-- How many digits a member has after its point; 0 if it is no number.
abbrev pub member_scale : Option Tree → ℕ
member_scale None = 0
member_scale (Some (trees.number x)) = (fraction_of x).scale
member_scale (Some t) = 0

-- The most of these among the members of the rows.
abbrev pub rows_scale : List Step → List Document → ℕ
rows_scale path [] = 0
rows_scale path (row ∷ rows) =
    max (member_scale (found_at path (document_tree row))) (rows_scale path rows)

-- The types in their order, with decimals of one scale.
abbrev pub types_in_order : ℕ → List LeastType
types_in_order scale =
    types.Nothing ∷ (types.Of scalars.Boolean ∷ (types.Of scalars.Int64 ∷ (types.Of scalars.UInt64
    ∷ (types.Of (scalars.Decimal scale) ∷ (types.Of scalars.Text ∷ (types.Of scalars.Date
    ∷ (types.Of scalars.Timestamp ∷ (types.Of scalars.ZonedTimestamp ∷ (types.Of scalars.Interval
    ∷ (types.Of scalars.Binary ∷ []))))))))))
