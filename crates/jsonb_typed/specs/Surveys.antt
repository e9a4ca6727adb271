-- What a survey counts of the members that rows have.
use Rattle.std.specs.Prelude.{◌≡◌, ◌+◌, ◌-◌, ◌^◌, ℕ, min, max, List, length, fold, Option}
use Rattle.std.specs.Prelude.{None, Some, decimal, unsigned_abs}
use Rattle.jsonb_value.specs.declared.number.Number.{Number}
use Rattle.jsonb_value.specs.declared.number.Number.TheVariants.{Int64, UInt64, Decimal64}
use Rattle.jsonb_value.specs.declared.number.Number.TheVariants.{Decimal128}
use Rattle.jsonb_value.specs.Order.{fraction_of}
use Rattle.jsonb_value.specs.Tree.{Extension, Tree, array, binary, boolean, date, extension}
use Rattle.jsonb_value.specs.Tree.{interval, null, number, object, opaque, text, timestamp}
use Rattle.jsonb_value.specs.Tree.{timestamp_tz}
use Rattle.jsonb.specs.declared.document.Document.{Document}
use Rattle.jsonb.specs.Document.{document_tree}
use Rattle.jsonb_functions.specs.declared.path.Step.{Step}
use Rattle.jsonb_functions.specs.Found.{found_at}
use Rattle.typed_vector.specs.Cells.{Cell, absent, other, value}
use Rattle.jsonb_typed.specs.declared.survey.Scales.{Scales}
use Rattle.jsonb_typed.specs.declared.survey.Survey.{Survey}

-- What a row with this member has: the member itself.
abbrev pub member_cell : Option Tree → Cell Tree
member_cell None = absent
member_cell (Some t) = value t

-- The same of the member of a row at the end of a path.
abbrev pub cell_found : List Step → Document → Cell Tree
cell_found path row = member_cell (found_at path (document_tree row))

-- Each tree stands for itself.
abbrev pub is_tree : Tree → Tree → Type 0
is_tree t u = t ≡ u

-- One more, or the greatest count of 64 bits.
abbrev pub one_more : ℕ → ℕ
one_more n = min (n + 1) (2 ^ 64 - 1)

-- The survey of no rows.
abbrev pub no_rows : Survey
no_rows = record {
  rows = 0;
  not_documents = 0;
  absent = 0;
  nulls = 0;
  booleans = 0;
  int64s = 0;
  uint64s = 0;
  decimal64s = 0;
  decimal128s = 0;
  texts = 0;
  binaries = 0;
  dates = 0;
  timestamps = 0;
  zoned_timestamps = 0;
  intervals = 0;
  opaques = 0;
  arrays = 0;
  objects = 0;
  scales = None;
  most_digits = 0;
  longest_text = 0;
}

-- The scales with one more.
abbrev pub widened : ℕ → Option Scales → Option Scales
widened scale None = Some (record { least = scale; greatest = scale })
widened scale (Some s) =
    Some (record { least = min s.least scale; greatest = max s.greatest scale })

-- A survey with one more number of its kind.
abbrev pub with_number_kind : Number → Survey → Survey
with_number_kind (Int64 v) s = record s { int64s = one_more s.int64s }
with_number_kind (UInt64 v) s = record s { uint64s = one_more s.uint64s }
with_number_kind (Decimal64 d) s = record s { decimal64s = one_more s.decimal64s }
with_number_kind (Decimal128 d) s = record s { decimal128s = one_more s.decimal128s }

-- A survey with the digits of one more number.
abbrev pub with_digits : Number → Survey → Survey
with_digits x s = record s {
  scales = widened (fraction_of x).scale s.scales;
  most_digits = max s.most_digits (length (decimal (unsigned_abs (fraction_of x).value)));
}

-- A survey with one more number.
abbrev pub with_number : Number → Survey → Survey
with_number x s = with_digits x (with_number_kind x s)

-- A survey with one more text.
abbrev pub with_text : List ℕ → Survey → Survey
with_text bytes s = record s {
  texts = one_more s.texts;
  longest_text = max s.longest_text (length bytes);
}

-- A survey with one more extension value.
abbrev pub with_extension : Extension → Survey → Survey
with_extension (binary bytes) s = record s { binaries = one_more s.binaries }
with_extension (date d) s = record s { dates = one_more s.dates }
with_extension (timestamp t) s = record s { timestamps = one_more s.timestamps }
with_extension (timestamp_tz t) s = record s { zoned_timestamps = one_more s.zoned_timestamps }
with_extension (interval i) s = record s { intervals = one_more s.intervals }
with_extension (opaque tag bytes) s = record s { opaques = one_more s.opaques }

-- A survey with one more member.
abbrev pub with_tree : Tree → Survey → Survey
with_tree null s = record s { nulls = one_more s.nulls }
with_tree (boolean b) s = record s { booleans = one_more s.booleans }
with_tree (number x) s = with_number x s
with_tree (text bytes) s = with_text bytes s
with_tree (extension e) s = with_extension e s
with_tree (array ts) s = record s { arrays = one_more s.arrays }
with_tree (object ps) s = record s { objects = one_more s.objects }

-- A survey with one more row, whatever it has.
abbrev pub with_row : Survey → Survey
with_row s = record s { rows = one_more s.rows }

-- A survey with one more row: what its member is, that it has none, or that it is no document.
abbrev pub with_cell : Survey → Cell Tree → Survey
with_cell s absent = record (with_row s) { absent = one_more s.absent }
with_cell s (value t) = with_tree t (with_row s)
with_cell s (other bytes) = record (with_row s) { not_documents = one_more s.not_documents }

-- The survey of what the rows have.
abbrev pub survey_of : List (Cell Tree) → Survey
survey_of cells = fold with_cell no_rows cells
