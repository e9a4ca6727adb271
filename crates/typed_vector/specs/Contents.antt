-- What a call shows of a row, and of the rows' other bytes.
use Rattle.std.specs.Prelude.{ℕ, List}
use Rattle.std.specs.Borrow.{Bor}
use Rattle.typed_vector.specs.Cells.{Cell, absent, value, other, rows}
use Rattle.typed_vector.specs.Rest.{IsRest, spread}
use Rattle.typed_vector.specs.declared.rest.RestParts.{RestParts}
use Rattle.typed_vector.specs.declared.vector.Content.{Content}
use Rattle.typed_vector.specs.declared.vector.Content.TheVariants as contents

-- What the row has.
abbrev pub content_cell : {A : Type 0} → Content A → Cell A
content_cell contents.Absent = absent
content_cell (contents.Value item) = value item
content_cell (contents.Other bytes) = other bytes.now

-- What a row of texts or of binary values has.
abbrev pub bytes_cell : Content (Bor (List ℕ)) → Cell (List ℕ)
bytes_cell contents.Absent = absent
bytes_cell (contents.Value bytes) = value bytes.now
bytes_cell (contents.Other bytes) = other bytes.now

-- The other bytes of each of so many rows.
abbrev pub rests : ℕ → RestParts → List (List ℕ)
rests count rest = spread count rest.indices.now (rows rest.bytes.now rest.offsets.now)

-- They are stored, in order, for exactly the rows that have some.
abbrev pub IsStoredRest : ℕ → RestParts → Type 0
IsStoredRest count rest = IsRest count rest.indices.now rest.bytes.now rest.offsets.now
