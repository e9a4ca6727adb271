-- What the rows of a typed column have, by the members that they had.
use Rattle.std.specs.Prelude.{◌≡◌, ◌⊎◌, ⊤, ℕ, List, Option, None, Some}
use Rattle.jsonb_value.specs.Tree.{Tree}
use Rattle.jsonb_codec.specs.Doc.{Doc, IsDocument}
use Rattle.jsonb.specs.declared.document.Document.{Document}
use Rattle.jsonb.specs.declared.node.Node.{Node}
use Rattle.jsonb.specs.Code.{HasDocument}
use Rattle.jsonb.specs.Document.{document_tree}
use Rattle.jsonb.specs.Node.{node_tree, node_view}
use Rattle.jsonb_functions.specs.declared.path.Step.{Step}
use Rattle.jsonb_functions.specs.Found.{found_at}
use Rattle.typed_vector.specs.Cells.{Cell, absent, value, other, rest_cell}

-- A row without the member has nothing. One with it has a value that stands for the member, or, if
-- no value does, a document of it.
abbrev pub IsCellOf : {V : Type 0} → (V → Tree → Type 0) → Option Tree → Cell V → Type 0
IsCellOf Stands None absent = ⊤
IsCellOf Stands None (value v) = ⊥
IsCellOf Stands None (other bytes) = ⊥
IsCellOf Stands (Some t) absent = ⊥
IsCellOf Stands (Some t) (value v) = Stands v t
IsCellOf {V = V} Stands (Some t) (other bytes) = Doc bytes t × ((v : V) → Stands v t → ⊥)

-- The same of the member of a row at the end of a path.
abbrev pub IsCellAt : {V : Type 0} → (V → Tree → Type 0) → List Step → Document → Cell V → Type 0
IsCellAt Stands path row c = IsCellOf Stands (found_at path (document_tree row)) c

-- The same of a row of bytes. Bytes that are not a document are kept; no bytes have no member.
abbrev pub IsCellOfRow : {V : Type 0} → (V → Tree → Type 0) → List Step → List ℕ → Cell V → Type 0
IsCellOfRow Stands path row c = ((t : Tree) → Doc row t → IsCellOf Stands (found_at path t) c)
    × ((IsDocument row → ⊥) → c ≡ rest_cell row)

-- A row can have a cell: it has no member, a value stands for the member, or the member has
-- a document of its own.
abbrev pub HasCell : {V : Type 0} → (V → Tree → Type 0) → Option Node → Type 0
HasCell Stands None = ⊤
HasCell {V = V} Stands (Some member) = ((v : V) × Stands v (node_tree member))
    ⊎ HasDocument (node_view member) (node_tree member)
