-- What a column of the least type keeps.
use Rattle.std.proofs.Common.{◌≡◌, List, [], ◌∷◌, Option, None, Some, inl, inr, refl, sym, subst}
use Rattle.std.specs.Prelude.{All}
use Rattle.std.specs.List.{AllZip}
use Rattle.std.proofs.lemmas.List.Elements.{All-cons, All-head, All-nil, All-tail}
use Rattle.jsonb_value.specs.Tree.{Tree}
use Rattle.jsonb_codec.specs.Doc.{Doc}
use Rattle.jsonb.specs.Document.{document_tree}
use Rattle.jsonb.specs.declared.document.Document.{Document}
use Rattle.jsonb_functions.specs.Found.{found_at}
use Rattle.jsonb_functions.specs.declared.path.Step.{Step}
use Rattle.typed_vector.specs.Cells.{Cell, absent, other, value}
use Rattle.jsonb_typed.specs.Cells.{IsCellAt, IsCellOf}
use Rattle.jsonb_typed.specs.LeastTypes.{IsFirstHeld, IsHeldAt, IsHeldIn, IsValueOf}
use Rattle.jsonb_typed.specs.Scalars.{IsOfScalarType, ScalarOf, Stands}
use Rattle.jsonb_typed.specs.TypeValues.{LeavesNull, StandsIn, ValueOf}
use Rattle.jsonb_typed.specs.declared.lattice.LeastType.{LeastType}
use Rattle.jsonb_typed.specs.declared.lattice.LeastType.TheVariants as types
use Rattle.jsonb_typed.specs.declared.numbers.Fit.{Fit}
use Rattle.jsonb_typed.specs.declared.scalar.ScalarType.{ScalarType}
use Rattle.jsonb_typed.specs.declared.scalar.ScalarType.TheVariants as scalars

-- The first that holds all does hold all.
pub first_holds : (fit : Fit) (path : List Step) (rows : List Document)
    (candidates : List LeastType) (found : LeastType) → IsFirstHeld fit path rows candidates found
    → (found ≡ types.Mixed → ⊥) → All (IsHeldAt fit found path) rows
first_holds fit path rows [] found is known = absurd (known is)
first_holds fit path rows (type ∷ candidates) found (inl (held, is)) known =
    subst (λ (t : LeastType). All (IsHeldAt fit t path) rows) (sym is) held
first_holds fit path rows (type ∷ candidates) found (inr (not_held, later)) known =
    first_holds fit path rows candidates found later known

-- A member that is a value of the type has one that stands for it.
scalar_stands : (fit : Fit) (type : ScalarType) (t : Tree) → IsOfScalarType fit type t
    → (v : ScalarOf type) × Stands fit type v t
scalar_stands fit scalars.Boolean t is = is
scalar_stands fit scalars.Int64 t is = is
scalar_stands fit scalars.UInt64 t is = is
scalar_stands fit (scalars.Decimal scale) t is = is
scalar_stands fit scalars.Text t is = is
scalar_stands fit scalars.Date t is = is
scalar_stands fit scalars.Timestamp t is = is
scalar_stands fit scalars.ZonedTimestamp t is = is
scalar_stands fit scalars.Interval t is = is
scalar_stands fit scalars.Binary t is = is

-- A member that is held and not null has a value that stands for it.
value_stands : (fit : Fit) (found : LeastType) (t : Tree) → (found ≡ types.Mixed → ⊥)
    → IsValueOf fit found t → (v : ValueOf found) × StandsIn fit found v t
value_stands fit types.Nothing t known is = absurd is
value_stands fit (types.Of type) t known is = scalar_stands fit type t is
value_stands fit types.Mixed t known is = absurd (known refl)

-- So what a row keeps beside its value is null.
leaves_null : (fit : Fit) (found : LeastType) (m : Option Tree) (c : Cell (ValueOf found))
    → (found ≡ types.Mixed → ⊥) → IsHeldIn fit found m → IsCellOf (StandsIn fit found) m c
    → LeavesNull c
leaves_null fit found m absent known held is = tt
leaves_null fit found m (value v) known held is = tt
leaves_null fit found None (other bytes) known held is = absurd is
leaves_null fit found (Some t) (other bytes) known (inl null) is =
    subst (λ (u : Tree). Doc bytes u) null is.0
leaves_null fit found (Some t) (other bytes) known (inr held) is =
    let stands = value_stands fit found t known held in absurd (is.1 stands.0 stands.1)

pub all_leave_null : (fit : Fit) (path : List Step) (found : LeastType) (rows : List Document)
    (column : List (Cell (ValueOf found))) → (found ≡ types.Mixed → ⊥)
    → All (IsHeldAt fit found path) rows → AllZip (IsCellAt (StandsIn fit found) path) rows column
    → All LeavesNull column
all_leave_null fit path found rows [] known held are = All-nil LeavesNull
all_leave_null fit path found [] (c ∷ column) known held are = absurd are
all_leave_null fit path found (row ∷ rows) (c ∷ column) known held are =
    All-cons LeavesNull c column
    (leaves_null fit found (found_at path (document_tree row)) c known
    (All-head (IsHeldAt fit found path) row rows held) are.0)
    (all_leave_null fit path found rows column known
    (All-tail (IsHeldAt fit found path) row rows held) are.1)
