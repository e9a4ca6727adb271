-- What a file has of the rows that it was made of.
use Rattle.std.specs.Prelude.{◌≡◌, ◌⊎◌, ◌+◌, ⊤, ℕ, List, [], ◌∷◌, length, Option, None, Some}
use Rattle.std.specs.Prelude.{IfSome}
use Rattle.std.specs.Cmp.Lexicographic.{slice_cmp}
use Rattle.std.specs.Ordering.{nat_cmp}
use Rattle.std.specs.declared.cmp.Ordering.TheVariants.{Less}
use Rattle.jsonb_value.specs.Tree.{Tree, boolean, extension, number, text}
use Rattle.jsonb_codec.specs.Canon.{Fits, canon}
use Rattle.jsonb.specs.declared.document.Document.{Document}
use Rattle.jsonb.specs.Document.{document_tree}
use Rattle.jsonb.specs.Node.{value_of_key}
use Rattle.jsonb_typed.specs.declared.numbers.Fit.TheVariants.{Exact}
use Rattle.jsonb_typed.specs.Scalars.{IsOfScalarType}
use Rattle.jsonb_typed.specs.declared.scalar.ScalarType.{ScalarType}
use Rattle.jsonb_typed_file.specs.declared.write.ColumnPlan.{ColumnPlan}
use Rattle.jsonb_typed_file.specs.File.{IsFile, row_count}
use Rattle.jsonb_typed_file.specs.Layout.{Contents, Parts}
use Rattle.jsonb_typed_file.specs.Rows.{row_tree}
use Rattle.jsonb_typed_file.specs.Values.{column_cell}

-- The member is a value of the type, with its kind and its digits.
abbrev pub IsColumnValue : ScalarType → Tree → Type 0
IsColumnValue type t = IsOfScalarType Exact type t

-- The tree of a truth value, a number, a text or an extension value.
abbrev pub stored_scalar : Tree → Option Tree
stored_scalar (boolean b) = Some (boolean b)
stored_scalar (number x) = Some (number x)
stored_scalar (text s) = Some (text s)
stored_scalar (extension e) = Some (extension e)
stored_scalar t = None

-- A column has the member if that is a value of its type, and otherwise no value.
abbrev pub IsCell : ScalarType → Option Tree → Option Tree → Type 0
IsCell type None cell = cell ≡ None
IsCell type (Some t) cell =
    (IsColumnValue type t × (cell ≡ Some t)) ⊎ ((IsColumnValue type t → ⊥) × (cell ≡ None))

-- Each column has the member of a row with its name, if that is a value of its type.
abbrev pub HaveCells : Tree → ℕ → List Parts → Type 0
HaveCells t index [] = ⊤
HaveCells t index (p ∷ ps) =
    IsCell p.type (value_of_key p.name t) (column_cell p index) × HaveCells t index ps

-- The row fits the format, comes back as its canonical document, and its members that are values
-- of the columns' types are kept in them.
pub record IsWrittenRow (f : Contents) (index : ℕ) (row : Document) : Type 0 where
  pub fits : Fits (document_tree row)
  pub whole : canon (row_tree f index) ≡ canon (document_tree row)
  pub cells : HaveCells (document_tree row) index f.columns

-- The rows from an index on are these.
abbrev pub AreRows : Contents → ℕ → List Document → Type 0
AreRows f index [] = ⊤
AreRows f index (row ∷ rows) = IsWrittenRow f index row × AreRows f (index + 1) rows

-- The columns have the names and the types of the plans.
abbrev pub ArePlanned : List Parts → List ColumnPlan → Type 0
ArePlanned [] [] = ⊤
ArePlanned [] (q ∷ qs) = ⊥
ArePlanned (p ∷ ps) [] = ⊥
ArePlanned (p ∷ ps) (q ∷ qs) =
    ((p.name ≡ q.name.now) × (p.type ≡ q.column_type)) × ArePlanned ps qs

-- The names of the plans ascend strictly by their bytes.
abbrev pub AscendPlans : Option (List ℕ) → List ColumnPlan → Type 0
AscendPlans before [] = ⊤
AscendPlans before (q ∷ qs) =
    IfSome before (λ b. slice_cmp nat_cmp b q.name.now ≡ Less) × AscendPlans (Some q.name.now) qs

-- The bytes are a file of so many rows, which are these, with the columns of the plans.
pub record IsFileOf (rows : List Document) (plans : List ColumnPlan) (bytes : List ℕ)
    : Type 0 where
  pub file : Contents
  pub is : IsFile file bytes
  pub count : row_count file ≡ length rows
  pub planned : ArePlanned file.columns plans
  pub each : AreRows file 0 rows

-- All rows fit the format.
abbrev pub AllFit : List Document → Type 0
AllFit [] = ⊤
AllFit (row ∷ rows) = Fits (document_tree row) × AllFit rows
