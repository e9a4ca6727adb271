-- What an operation writes for a row.
use Rattle.std.specs.Prelude.{◌≡◌, ℕ, Bool, true, false, List, [], ◌∷◌, ◌++◌, Option, None, Some}
use Rattle.std.specs.Prelude.{◌⊎◌, option_to_list, Result, Ok, Err, ⊤}
use Rattle.std.specs.declared.alloc.Global.{Global}
use Rattle.std.specs.declared.vec.Vec.{Vec}
use Rattle.jsonb_value.specs.declared.error.Error.{Error}
use Rattle.jsonb_value.specs.declared.error.Error.TheVariants.{InvalidJsonb, OutOfMemory}
use Rattle.jsonb_value.specs.Text.{compact, pretty}
use Rattle.jsonb_value.specs.Tree.{Tree}
use Rattle.jsonb.specs.Document.{document_tree, tree_in}
use Rattle.hex.specs.Hex.{encode_lower}
use Rattle.jsonb.specs.StoredRow.{row_bytes}
use Rattle.jsonb_functions.specs.Contains.{contains_whole}
use Rattle.jsonb_functions.specs.Edited.{edited_whole, create}
use Rattle.jsonb_functions.specs.Patched.{patched}
use Rattle.jsonb_functions.specs.Picked.{picked}
use Rattle.jsonb_rows.specs.Each.{edited_each, operation_of}
use Rattle.jsonb_path.specs.declared.path.PathError.{PathError}
use Rattle.jsonb_path.specs.Meaning as meaning
use Rattle.kohiblad_shell.specs.Asked.{asked, first_of, passes_path}
use Rattle.kohiblad_shell.specs.declared.outcome.Reason.TheVariants.{GivenUp}
use Rattle.jsonb_functions.specs.Stripped.{stripped}
use Rattle.jsonb_functions.specs.declared.choice.Kept.TheVariants.{Named}
use Rattle.kohiblad_shell.specs.declared.input.Form.{Form}
use Rattle.kohiblad_shell.specs.declared.input.Form.TheVariants.{Lines, Documents}
use Rattle.kohiblad_shell.specs.declared.operation.Job.{Job}
use Rattle.kohiblad_shell.specs.declared.operation.Operation.{Operation}
use Rattle.kohiblad_shell.specs.declared.operation.Operation.TheVariants.{Check, Canonical, Get}
use Rattle.kohiblad_shell.specs.declared.operation.Operation.TheVariants.{Select, Filter, Contains}
use Rattle.kohiblad_shell.specs.declared.operation.Operation.TheVariants.{Encode, Decode, Key}
use Rattle.kohiblad_shell.specs.declared.operation.Operation.TheVariants.{Sort, Remove, Range}
use Rattle.kohiblad_shell.specs.declared.operation.Operation.TheVariants.{Grep}
use Rattle.kohiblad_shell.specs.declared.operation.Operation.TheVariants.{Build, Extract, Show}
use Rattle.kohiblad_shell.specs.declared.operation.Operation.TheVariants as operations
use Rattle.kohiblad_shell.specs.declared.operation.Change.{Change}
use Rattle.kohiblad_shell.specs.declared.operation.Change.TheVariants.{Set, Each, Merge, Pick}
use Rattle.kohiblad_shell.specs.declared.operation.Change.TheVariants.{StripNulls}
use Rattle.kohiblad_shell.specs.declared.operation.TextLayout.{TextLayout}
use Rattle.kohiblad_shell.specs.declared.operation.TextLayout.TheVariants.{Compact, Pretty}
use Rattle.kohiblad_shell.specs.declared.operation.Style.{Style}
use Rattle.kohiblad_shell.specs.declared.operation.Style.TheVariants.{Json, Raw}
use Rattle.kohiblad_shell.specs.declared.outcome.Reason.TheVariants.{TooLarge}
use Rattle.kohiblad_shell.specs.Faults.{plain_fault}
use Rattle.kohiblad_shell.specs.Extracts.{IsExtracted}
use Rattle.kohiblad_shell.specs.Outcomes.{IsUnlessPassed, Outcome}
use Rattle.kohiblad_shell.specs.Keys.{row_key}
use Rattle.kohiblad_shell.specs.Made.{IsMade}
use Rattle.kohiblad_shell.specs.Inputs.{framed, is_passed_over}
use Rattle.kohiblad_shell.specs.Ranges.{is_in_range}
use Rattle.kohiblad_shell.specs.Removals.{IsRemoved}
use Rattle.kohiblad_shell.specs.Rows.{IsRow, IsRowFault}
use Rattle.kohiblad_shell.specs.Searches.{is_searched, text_of}
use Rattle.kohiblad_shell.specs.Sorts.{key_and_line}
use Rattle.kohiblad_shell.specs.Templates.{IsBuilt, built}

-- The compact text of a value, with a line feed.
abbrev pub row_line : Tree → List ℕ
row_line t = compact t ++ 10 ∷ []

-- The text that is written in place of a JSON text in this style, if there is one.
abbrev pub raw_text : Style → Tree → Option (List ℕ)
raw_text Json t = None
raw_text Raw t = text_of t

-- This text, if there is one, or else the compact text, with a line feed.
abbrev pub text_or_row : Option (List ℕ) → Tree → List ℕ
text_or_row (Some s) t = s ++ 10 ∷ []
text_or_row None t = row_line t

-- The line of a value in this style.
abbrev pub value_line : Style → Tree → List ℕ
value_line style t = text_or_row (raw_text style t) t

-- The lines of these values, in order.
abbrev pub value_lines : Style → List Tree → List ℕ
value_lines style [] = []
value_lines style (t ∷ ts) = value_line style t ++ value_lines style ts

-- The row as it stands, if it is kept.
abbrev pub kept_row : Form → Bool → List ℕ → List ℕ
kept_row form true row = framed form row
kept_row form false row = []

-- The text of a value with its line feed.
abbrev pub document_line : TextLayout → Tree → List ℕ
document_line Compact t = row_line t
document_line Pretty t = pretty t ++ 10 ∷ []

-- What an operation writes for a row and its document, if it makes no value and the bytes are not
-- shown.
abbrev pub row_lines : Operation → Form → List ℕ → List ℕ → List ℕ
row_lines Check form row bytes = []
row_lines Canonical form row bytes = []
row_lines (Get path style) form row bytes = []
row_lines (Select path style) form row bytes = []
row_lines (Filter path) form row bytes = kept_row form (passes_path path.now (tree_in bytes)) row
row_lines (Contains part) form row bytes =
    kept_row form (contains_whole (tree_in bytes) (document_tree part)) row
row_lines (operations.Change change) form row bytes = []
row_lines (Remove paths) form row bytes = []
row_lines (Range range) form row bytes = kept_row form (is_in_range range (tree_in bytes)) row
row_lines (Grep search) form row bytes = kept_row form (is_searched search (tree_in bytes)) row
row_lines Encode form row bytes = row_bytes bytes
row_lines (Decode layout) form row bytes = document_line layout (tree_in bytes)
row_lines (Key paths) form row bytes =
    encode_lower (row_key paths.now (tree_in bytes)) ++ 10 ∷ []
row_lines (Sort paths) form row bytes =
    key_and_line (row_key paths.now (tree_in bytes)) (framed form row)
row_lines (Extract table) form row bytes = []
row_lines (Show look) form row bytes = []
row_lines (Build template) form row bytes = []

-- The changed value.
abbrev pub changed : Change → Tree → Tree
changed (Set path value) t = edited_whole path.now (create (document_tree value)) t
changed (Each path edit) t = edited_each path.now (operation_of edit) t
changed (Merge patch) t = patched t (document_tree patch)
changed (Pick names) t = picked names.now Named t
changed StripNulls t = stripped t

-- The row of a value in canonical form.
abbrev pub IsCanonicalRow : Form → Tree → Outcome → Type 0
IsCanonicalRow Documents t outcome = IsMade Documents t outcome
IsCanonicalRow (Lines reading) t (Ok lines) = lines ≡ row_line t
IsCanonicalRow (Lines reading) t (Err fault) = ⊥

-- These lines, or the fault that a path is given up.
abbrev pub IsUnlessGivenUp : Option PathError → List ℕ → Outcome → Type 0
IsUnlessGivenUp None lines (Ok written) = written ≡ lines
IsUnlessGivenUp None lines (Err fault) = ⊥
IsUnlessGivenUp (Some e) lines (Ok written) = ⊥
IsUnlessGivenUp (Some e) lines (Err fault) = fault ≡ plain_fault 0 (GivenUp e)

-- The lines of all values that a path gives, or the fault that it is given up.
abbrev pub IsGiven : Style → meaning.Outcome → Outcome → Type 0
IsGiven style o outcome = IsUnlessGivenUp o.error (value_lines style o.values) outcome

-- The same of the first value alone.
abbrev pub IsFirstGiven : Style → meaning.Outcome → Outcome → Type 0
IsFirstGiven style o outcome =
    IsUnlessGivenUp o.error (value_lines style (option_to_list (first_of o.values))) outcome

-- What an operation gives for a row and its document. Of the lines that show the bytes nothing is
-- said.
abbrev pub IsRowAnswer : Operation → Form → List ℕ → List ℕ → Outcome → Type 0
IsRowAnswer (operations.Change change) form row bytes outcome =
    IsMade form (changed change (tree_in bytes)) outcome
IsRowAnswer (Remove paths) form row bytes outcome = IsRemoved form paths.now bytes outcome
IsRowAnswer (Extract table) form row bytes outcome = IsExtracted table (tree_in bytes) outcome
IsRowAnswer (Get path style) form row bytes outcome =
    IsFirstGiven style (asked path.now (tree_in bytes)) outcome
IsRowAnswer (Select path style) form row bytes outcome =
    IsGiven style (asked path.now (tree_in bytes)) outcome
IsRowAnswer (Build template) form row bytes outcome =
    IsBuilt form (built template.now (tree_in bytes)) outcome
IsRowAnswer Canonical form row bytes outcome = IsCanonicalRow form (tree_in bytes) outcome
IsRowAnswer (Show look) form row bytes (Ok lines) = ⊤
IsRowAnswer (Show look) form row bytes (Err fault) = ⊥
IsRowAnswer operation form row bytes (Ok lines) = lines ≡ row_lines operation form row bytes
IsRowAnswer operation form row bytes (Err fault) = ⊥

-- What a job gives for a row that is not passed over: for its document, or its fault.
abbrev pub read_row_rule : Job → List ℕ → Outcome → Type 0
read_row_rule job row (Ok lines) = (bytes : List ℕ) × (IsRow job.form row bytes
    × IsRowAnswer job.operation job.form row bytes (Ok lines))
read_row_rule job row (Err fault) = IsRowFault job.form row fault ⊎ ((bytes : List ℕ)
    × (IsRow job.form row bytes × IsRowAnswer job.operation job.form row bytes (Err fault)))

-- What a job gives for a row.
abbrev pub row_rule : Job → List ℕ → Outcome → Type 0
row_rule job row outcome =
    IsUnlessPassed (is_passed_over job.form row) (read_row_rule job row) outcome

-- The same of the library's results: `InvalidJsonb` is the fault of a value that is too large.
abbrev pub IsResultOf : (Outcome → Type 0) → Result (Vec ℕ Global) Error → Type 0
IsResultOf IsOutcome (Ok lines) = IsOutcome (Ok lines.items)
IsResultOf IsOutcome (Err InvalidJsonb) =
    IsOutcome (Err (plain_fault 0 TooLarge))
IsResultOf IsOutcome (Err OutOfMemory) = ⊤
IsResultOf IsOutcome (Err error) = ⊥
