-- The file whose only row is one of another file's.
use Rattle.std.specs.Prelude.{◌≡◌, ◌<◌, ◌-◌, ◌+◌, ◌*◌, if◌then◌else◌, ℕ, List, [], ◌∷◌, map}
use Rattle.std.specs.Prelude.{take, drop}
use Rattle.jsonb_codec.specs.Depth.{IsDocumentWithin}
use Rattle.jsonb_typed_file.specs.File.{IsInForm, row_count}
use Rattle.jsonb_typed_file.specs.Layout.{Contents, Parts}
use Rattle.jsonb_typed_file.specs.Rows.{row_tree}
use Rattle.jsonb_typed_file.specs.Values.{is_set, number_size, string_at}

-- The flags of the row.
abbrev pub flags_of_row : List ℕ → ℕ → List ℕ
flags_of_row flags index = if is_set flags index then 1 ∷ [] else 0 ∷ []

-- The bytes from one place to another.
abbrev pub span_of : ℕ → ℕ → List ℕ → List ℕ
span_of start end bytes = take (end - start) (drop start bytes)

-- The column of the row; its texts stay as they are, and its offsets keep the place of its own.
abbrev pub column_of_row : Parts → ℕ → Parts
column_of_row p index = record {
  name = p.name;
  type = p.type;
  flags = flags_of_row p.flags index;
  numbers = span_of (number_size p.type index - number_size p.type 0)
      (number_size p.type (index + 1)) p.numbers;
  texts = p.texts;
}

-- The file of the row.
abbrev pub file_of_row : Contents → ℕ → Contents
file_of_row f index = record {
  offsets = span_of (8 * index) (8 * index + 16) f.offsets;
  documents = f.documents;
  columns = map (λ p. column_of_row p index) f.columns;
}

-- The file has one row, which has the rest and the tree of this row of another.
pub record IsRowOf (f : Contents) (index : ℕ) (g : Contents) : Type 0 where
  pub count : row_count g ≡ 1
  pub rest : string_at g.offsets g.documents 0 ≡ string_at f.offsets f.documents index
  pub tree : row_tree g 0 ≡ row_tree f index

-- If there is such a row, it is in form: its rest is a document, its texts are texts, and the names
-- ascend.
abbrev pub IsRowInForm : Contents → ℕ → Type 0
IsRowInForm f index = index < row_count f → IsInForm (file_of_row f index)

-- If there is such a row, its rest nests at most so deep.
abbrev pub IsRowWithin : ℕ → Contents → ℕ → Type 0
IsRowWithin depth f index = index < row_count f
    → IsDocumentWithin depth (string_at f.offsets f.documents index)
