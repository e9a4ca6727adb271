-- What a survey of the rows of an input counts, and how it is written.
use Rattle.std.specs.Prelude.{◌==◌, ◌++◌, ℕ, List, [], ◌∷◌, Option, None, Some, Ok, Err}
use Rattle.std.specs.Prelude.{codes, decimal, cond}
use Rattle.jsonb.specs.Document.{tree_in}
use Rattle.jsonb_path.specs.PathParts.{PathParts}
use Rattle.kohiblad_shell.specs.Asked.{first_asked}
use Rattle.jsonb_typed.specs.Surveys.{member_cell, with_cell}
use Rattle.jsonb_typed.specs.declared.survey.Scales.{Scales}
use Rattle.jsonb_typed.specs.declared.survey.Survey.{Survey}
use Rattle.kohiblad_shell.specs.declared.input.Form.{Form}
use Rattle.kohiblad_shell.specs.declared.survey.ValueCounter.{ValueCounter}
use Rattle.kohiblad_shell.specs.Inputs.{is_passed_over}
use Rattle.kohiblad_shell.specs.Outcomes.{IsUnlessPassed, LineRule}
use Rattle.kohiblad_shell.specs.Rows.{IsRow, IsRowFault}

-- A row that is not passed over gives its document, or its fault.
abbrev pub read_document_rule : Form → LineRule
read_document_rule form row (Ok document) = IsRow form row document
read_document_rule form row (Err fault) = IsRowFault form row fault

-- What a row gives.
abbrev pub document_rule : Form → LineRule
document_rule form row outcome =
    IsUnlessPassed (is_passed_over form row) (read_document_rule form row) outcome

-- A survey with one more document: what the first value is to which the path leads. No bytes are no
-- document, and change nothing.
abbrev pub with_document : PathParts → Survey → List ℕ → Survey
with_document path s [] = s
with_document path s (byte ∷ bytes) =
    with_cell s (member_cell (first_asked path (tree_in (byte ∷ bytes))))

-- What counts values after a row gave this document.
abbrev pub with_row : ValueCounter → List ℕ → ValueCounter
with_row counter document = record {
  path = counter.path;
  form = counter.form;
  survey = with_document counter.path.now counter.survey document;
}

-- ---- how it is written

-- The line of a count with its name, unless it is 0.
abbrev pub count_line : List ℕ → ℕ → List ℕ
count_line name count =
    cond (count == 0) [] (name ++ (codes " " ++ (decimal count ++ 10 ∷ [])))

-- How many rows there are, how many have no value, and how many values are null or booleans.
abbrev pub row_count_lines : Survey → List ℕ
row_count_lines s =
    codes "rows " ++ (decimal s.rows ++ (10 ∷ (count_line (codes "absent") s.absent
    ++ (count_line (codes "null") s.nulls ++ count_line (codes "boolean") s.booleans))))

-- How many values are numbers of each kind.
abbrev pub number_count_lines : Survey → List ℕ
number_count_lines s =
    count_line (codes "int64") s.int64s ++ (count_line (codes "uint64") s.uint64s
    ++ (count_line (codes "decimal64") s.decimal64s
    ++ count_line (codes "decimal128") s.decimal128s))

-- How many values are dates, timestamps or intervals.
abbrev pub time_count_lines : Survey → List ℕ
time_count_lines s =
    count_line (codes "date") s.dates ++ (count_line (codes "timestamp") s.timestamps
    ++ (count_line (codes "timestamp_tz") s.zoned_timestamps
    ++ count_line (codes "interval") s.intervals))

-- How many values are extension values of other kinds.
abbrev pub extension_count_lines : Survey → List ℕ
extension_count_lines s =
    count_line (codes "binary") s.binaries ++ count_line (codes "opaque") s.opaques

-- How many values are texts, arrays or objects.
abbrev pub container_count_lines : Survey → List ℕ
container_count_lines s =
    count_line (codes "text") s.texts ++ (count_line (codes "array") s.arrays
    ++ count_line (codes "object") s.objects)

-- How many bytes texts have, and how many digits numbers, at most.
abbrev pub length_lines : Survey → List ℕ
length_lines s =
    count_line (codes "length") s.longest_text ++ count_line (codes "digits") s.most_digits

-- How many digits numbers have after the point, if there are numbers.
abbrev pub scale_lines : Option Scales → List ℕ
scale_lines None = []
scale_lines (Some s) =
    codes "scales " ++ (decimal s.least ++ (codes " " ++ (decimal s.greatest ++ 10 ∷ [])))

-- The lines of a survey.
abbrev pub survey_lines : Survey → List ℕ
survey_lines s =
    row_count_lines s ++ (number_count_lines s ++ (time_count_lines s
    ++ (extension_count_lines s ++ (container_count_lines s ++ (length_lines s
    ++ scale_lines s.scales)))))
