-- Writing a file, and reading it again.
use Rattle.std.proofs.Common.{◌≤◌, ◌+◌, [], ◌∷◌, Bool, true, false, List, arith}
use Rattle.std.specs.Prelude.{Result, Ok, Err, IfOk, IsTrue, ℕ, if◌then◌else◌}
use Rattle.std.specs.Borrow.{Bor}
use Rattle.jsonb_value.specs.Tree as trees
use Rattle.jsonb_value.specs.Tree.{Tree, object, Pairs, no_pairs, pair}
use Rattle.jsonb_codec.specs.Canon.{Fits, pairs_shapes}
use Rattle.jsonb_codec.specs.Shape.{AllFit, shape_count}
use Rattle.jsonb_functions.specs.declared.choice.Kept.{Kept}
use Rattle.jsonb_functions.specs.Picked.{is_named, keeps, picked, picked_pairs}
use Rattle.jsonb.specs.declared.document.Document.{Document}
use Rattle.jsonb_typed_file.specs.declared.error.WriteError.{WriteError}
use Rattle.jsonb_typed_file.specs.declared.write.ColumnPlan.{ColumnPlan}
use Rattle.jsonb_typed_file.specs.Layout.{Contents}
use Rattle.jsonb_typed_file.specs.Written.{AreRows, IsFileOf}
use Rattle.jsonb_typed_file.specs.Written as written

-- What is read again is a file of the rows.
pub told_file : (r : Result Bool WriteError) (A B : Type 0) → (A → B)
    → IfOk r (λ b. IsTrue b → A) → IfOk r (λ b. IsTrue b → B)
told_file (Ok b) A B onward held = λ is. onward (held is)
told_file (Err e) A B onward held = held

-- Of members that fit the format those that are picked fit it.
picked_pairs_fit : (names : List (Bor (List ℕ))) (which : Kept) (ps : Pairs)
    → AllFit (pairs_shapes ps)
    → AllFit (pairs_shapes (picked_pairs names which ps))
    × (shape_count (pairs_shapes (picked_pairs names which ps)) ≤ shape_count (pairs_shapes ps))
picked_pairs_fit names which no_pairs fit = (tt, omega arith)
picked_pairs_fit names which (pair k t ps) fit =
    let (each, few) = picked_pairs_fit names which ps fit.1 in
    chosen (keeps which (is_named names k)) each few
  where
    chosen : (b : Bool) → AllFit (pairs_shapes (picked_pairs names which ps))
        → shape_count (pairs_shapes (picked_pairs names which ps))
        ≤ shape_count (pairs_shapes ps)
        → AllFit (pairs_shapes (if b then pair k t (picked_pairs names which ps)
        else picked_pairs names which ps))
        × (shape_count (pairs_shapes (if b then pair k t (picked_pairs names which ps)
        else picked_pairs names which ps)) ≤ shape_count (pairs_shapes (pair k t ps)))
    chosen true each few = ((fit.0, each), omega (arith, few))
    chosen false each few = (each, omega (arith, few))

pub picked_fit : (names : List (Bor (List ℕ))) (which : Kept) (t : Tree) → Fits t
    → Fits (picked names which t)
picked_fit names which (object ps) (few, fit) =
    let (each, less) = picked_pairs_fit names which ps fit in (omega (arith, few, less), each)
picked_fit names which trees.null fit = fit
picked_fit names which (trees.boolean b) fit = fit
picked_fit names which (trees.number x) fit = fit
picked_fit names which (trees.text s) fit = fit
picked_fit names which (trees.extension e) fit = fit
picked_fit names which (trees.array ts) fit = fit

-- All rows of a file fit the format.
rows_fit : (f : Contents) (index : ℕ) (rows : List Document) → AreRows f index rows
    → written.AllFit rows
rows_fit f index [] each = tt
rows_fit f index (row ∷ rows) each = (each.0.fits, rows_fit f (index + 1) rows each.1)

pub file_fits : (rows : List Document) (plans : List ColumnPlan) (bytes : List ℕ)
    → IsFileOf rows plans bytes → written.AllFit rows
file_fits rows plans bytes file = rows_fit file.file 0 rows file.each
