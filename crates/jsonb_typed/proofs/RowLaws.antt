-- One more row of a column.
use Rattle.std.proofs.Common.{◌≡◌, ℕ, ◌+◌, ◌<◌, List, [], ◌∷◌, ◌++◌, length, take, sym, ap, ◌∙◌}
use Rattle.std.proofs.Common.{refl, subst}
use Rattle.std.specs.Prelude.{slice_index_or}
use Rattle.std.specs.List.{AllZip}
use Rattle.std.proofs.lemmas.List.{take_more}
use Rattle.std.proofs.lemmas.Slice.Zip.{all_zipped_more}
use Rattle.jsonb_value.specs.Tree.{Tree}
use Rattle.jsonb_codec.specs.Doc.{IsDocument}
use Rattle.jsonb.specs.Document.{document_bytes, document_tree, tree_in}
use Rattle.jsonb.specs.declared.document.Document.{Document}
use Rattle.jsonb.proofs.DocumentLaws.{tree_in-is, tree_of_bytes}
use Rattle.jsonb_functions.specs.Found.{found_at}
use Rattle.jsonb_functions.specs.declared.path.Step.{Step}
use Rattle.typed_vector.specs.Cells.{Cell, rest_cell}
use Rattle.jsonb_typed.specs.Cells.{IsCellOf, IsCellOfRow}

-- The rows before it and the row itself are as R says.
pub more_rows : {A B : Type 0} (R : A → B → Type 0) (rows : List A) (i : ℕ) (before after : List B)
    (c : B) (row : A) → i < length rows → row ≡ slice_index_or rows i row
    → after ≡ before ++ c ∷ [] → AllZip R (take i rows) before → R row c
    → AllZip R (take (i + 1) rows) after
more_rows R rows i before after c row low is grown so_far one =
    let front : take (i + 1) rows ≡ take i rows ++ row ∷ [] =
    take_more rows i row low ∙ ap (λ x. take i rows ++ x ∷ []) (sym is) in
    rw (grown, front) (all_zipped_more R (take i rows) before row c so_far one)

-- The row of a document has what the document's member has, and other bytes are kept.
pub cell_of_row : {V : Type 0} (Stands : V → Tree → Type 0) (path : List Step) (row : List ℕ)
    (d : Document) (c : Cell V) → document_bytes d ≡ row
    → IsCellOf Stands (found_at path (document_tree d)) c → IsCellOfRow Stands path row c
cell_of_row Stands path row d c is cell = (
  λ t doc. subst (λ (u : Tree). IsCellOf Stands (found_at path u) c)
      (ap tree_in is ∙ tree_in-is row t doc) cell,
  λ none. absurd (none (document_tree d, tree_of_bytes row d is)),
)

pub cell_of_bytes : {V : Type 0} (Stands : V → Tree → Type 0) (path : List Step)
    (row : List ℕ) → (IsDocument row → ⊥) → IsCellOfRow Stands path row (rest_cell row)
cell_of_bytes Stands path row none = (λ t doc. absurd (none (t, doc)), λ known. refl)
