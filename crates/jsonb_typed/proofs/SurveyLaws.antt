-- A survey with one more row.
use Rattle.std.proofs.Common.{◌≡◌, ℕ, ◌+◌, ◌<◌, List, [], ◌∷◌, ◌++◌, length, take, map, refl, sym}
use Rattle.std.proofs.Common.{ap}
use Rattle.std.proofs.Common.{◌∙◌, Option, None, Some}
use Rattle.std.specs.Prelude.{slice_index_or}
use Rattle.std.proofs.lemmas.List.{map-append, take_more}
use Rattle.std.proofs.lemmas.List.Sums.{fold-append}
use Rattle.jsonb_value.specs.Tree.{Tree}
use Rattle.jsonb.specs.declared.document.Document.{Document}
use Rattle.jsonb.specs.Document.{document_bytes, document_tree}
use Rattle.jsonb_functions.specs.Found.{found_at}
use Rattle.jsonb_functions.specs.declared.path.Step.{Step}
use Rattle.jsonb_typed.specs.Cells.{IsCellOf, IsCellOfRow}
use Rattle.jsonb_typed.specs.Surveys.{cell_found, is_tree, member_cell, survey_of, with_cell}
use Rattle.jsonb_typed.proofs.RowLaws.{cell_of_row}

-- The rows before it and the row itself are counted.
pub survey_more : (path : List Step) (rows : List Document) (i : ℕ) (row : Document)
    → i < length rows → row ≡ slice_index_or rows i row
    → with_cell (survey_of (map (cell_found path) (take i rows))) (cell_found path row)
    ≡ survey_of (map (cell_found path) (take (i + 1) rows))
survey_more path rows i row low is =
    let front : take (i + 1) rows ≡ take i rows ++ row ∷ [] =
    take_more rows i row low ∙ ap (λ (x : Document). take i rows ++ x ∷ []) (sym is) in
    let cells : map (cell_found path) (take (i + 1) rows)
    ≡ map (cell_found path) (take i rows) ++ cell_found path row ∷ [] =
    ap (map (cell_found path)) front ∙ map-append (cell_found path) (take i rows) (row ∷ []) in
    sym
    (ap survey_of cells
    ∙ fold-append with_cell _ (map (cell_found path) (take i rows)) (cell_found path row ∷ []))

-- A member is its own cell.
own_cell : (m : Option Tree) → IsCellOf is_tree m (member_cell m)
own_cell None = tt
own_cell (Some t) = refl

-- The row of a document has its member as its cell.
pub cell_of_document : (path : List Step) (row : List ℕ) (d : Document) → document_bytes d ≡ row
    → IsCellOfRow is_tree path row (cell_found path d)
cell_of_document path row d is =
    cell_of_row is_tree path row d (cell_found path d) is
    (own_cell (found_at path (document_tree d)))
