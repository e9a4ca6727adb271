-- What rows of bytes have at the end of a path.
use Rattle.std.specs.Prelude.{ℕ, List}
use Rattle.jsonb_value.specs.Meaning.{Meaning, document, other_bytes}
use Rattle.jsonb_value.specs.Tree.{Tree}
use Rattle.jsonb.specs.Within.{meaning_within}
use Rattle.jsonb_functions.specs.Found.{found_at}
use Rattle.jsonb_functions.specs.declared.path.Step.{Step}
use Rattle.typed_vector.specs.Cells.{Cell, rest_cell}
use Rattle.jsonb_typed.specs.Surveys.{member_cell}

-- A document has the member at the end of the path, if there is one. Other bytes are kept; no bytes
-- have nothing.
abbrev pub meaning_cell : List Step → Meaning → Cell Tree
meaning_cell path (document t) = member_cell (found_at path t)
meaning_cell path (other_bytes b) = rest_cell b

-- The same of a row. A document that nests too deep is other bytes.
abbrev pub row_cell : ℕ → List Step → List ℕ → Cell Tree
row_cell depth path row = meaning_cell path (meaning_within depth row)
