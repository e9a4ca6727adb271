-- The next row of some bytes, in the form in which rows stand.
use Rattle.std.specs.Prelude.{◌≡◌, ◌≢◌, ◌⊎◌, ◌<◌, ◌≤◌, ◌^◌, ℕ, List, [], ◌∷◌, ◌++◌, drop, length}
use Rattle.std.specs.Prelude.{Bool, true, false, ◌&&◌, Option, Some, None, OnSome, ⊤}
use Rattle.std.specs.List.{list_all}
use Rattle.std.specs.Io.KnownBytes.{Consumes, IsAtEnd, Keeps}
use Rattle.answer_lines.specs.Lines.{IsLine}
use Rattle.jsonb_value.specs.Json.Characters.{is_blank}
use Rattle.jsonb.specs.Texts.{display_text}
use Rattle.jsonb.specs.StoredRow.{row_bytes}
use Rattle.kohiblad_shell.specs.declared.input.Form.{Form}
use Rattle.kohiblad_shell.specs.declared.input.Form.TheVariants.{Lines, Documents}
use Rattle.kohiblad_shell.specs.declared.input.Found.{Found}
use Rattle.kohiblad_shell.specs.declared.input.Found.TheVariants.{Row, Cut, NoArray, End}
use Rattle.kohiblad_shell.specs.declared.input.TextForm.{TextForm}
use Rattle.kohiblad_shell.specs.declared.input.TextForm.TheVariants as texts
use Rattle.array_items.specs.Arrays.{item_in}
use Rattle.array_items.specs.Blanks.{trimmed}
use Rattle.array_items.specs.Values.{IsNextValue}
use Rattle.array_items.specs.declared.array.ArrayFault.{ArrayFault}
use Rattle.array_items.specs.declared.array.FoundItem.{FoundItem}
use Rattle.array_items.specs.declared.array.FoundItem.TheVariants as items

-- A row as it stands among others: with its line feed, or after its length.
abbrev pub framed : Form → List ℕ → List ℕ
framed (Lines reading) row = row ++ 10 ∷ []
framed Documents row = row_bytes row

-- The row of a document that was made: its text with a line feed, or itself after its length.
abbrev pub made_row : Form → List ℕ → List ℕ
made_row (Lines reading) bytes = display_text bytes ++ 10 ∷ []
made_row Documents bytes = row_bytes bytes

-- The first line of the bytes, and what follows it: a line ends at a line feed, or with the bytes
-- if it is not empty.
abbrev pub IsNextLine : List ℕ → List ℕ → List ℕ → Type 0
IsNextLine bytes line rest = IsLine line
    × ((bytes ≡ line ++ 10 ∷ rest) ⊎ ((bytes ≡ line) × ((0 < length line) × (rest ≡ []))))

-- The first text of the bytes, and what follows it: a line, a value, or an item with the `[` or the
-- comma before it.
abbrev pub IsNextText : TextForm → List ℕ → List ℕ → List ℕ → Type 0
IsNextText texts.Lines bytes row rest = IsNextLine bytes row rest
IsNextText texts.Values bytes row rest = IsNextValue bytes row rest
IsNextText texts.Items bytes row rest =
    item_in bytes ≡ record { found = items.Item; item = row; left = rest }

-- There is no text in the bytes: there are none, white space alone, or the `]` of an array.
abbrev pub HasNoText : TextForm → List ℕ → List ℕ → List ℕ → Type 0
HasNoText texts.Lines bytes row rest = bytes ≡ []
HasNoText texts.Values bytes row rest = trimmed bytes ≡ []
HasNoText texts.Items bytes row rest =
    item_in bytes ≡ record { found = items.End; item = row; left = rest }

-- The first row of the bytes, and what follows it. The length of a document has eight bytes.
abbrev pub IsNextRow : Form → List ℕ → List ℕ → List ℕ → Type 0
IsNextRow (Lines reading) bytes row rest = IsNextText reading.texts bytes row rest
IsNextRow Documents bytes row rest = (length row < 2 ^ 64) × (bytes ≡ row_bytes row ++ rest)

-- Whether a row is passed over: a line that is empty, or has white space alone, where lines are
-- read so.
abbrev pub is_passed_over : Form → List ℕ → Bool
is_passed_over (Lines reading) row = reading.passes_over_empty && list_all is_blank row
is_passed_over Documents row = false

-- The bytes end within a document, of which this part is there.
abbrev pub IsCut : Form → List ℕ → List ℕ → Type 0
IsCut (Lines reading) bytes part = ⊥
IsCut Documents bytes part = (bytes ≢ []) × ((part ≡ drop 8 bytes)
    × ((row rest : List ℕ) → IsNextRow Documents bytes row rest → ⊥))

-- There is no row in the bytes.
abbrev pub HasNoRow : Form → List ℕ → List ℕ → List ℕ → Type 0
HasNoRow (Lines reading) bytes row rest = HasNoText reading.texts bytes row rest
HasNoRow Documents bytes row rest = bytes ≡ []

-- The bytes are no array from a text on, of which this part is there.
abbrev pub IsNoArrayText : TextForm → List ℕ → List ℕ → List ℕ → ArrayFault → Type 0
IsNoArrayText texts.Items bytes part rest fault =
    item_in bytes ≡ record { found = items.Fault fault; item = part; left = rest }
IsNoArrayText texts bytes part rest fault = ⊥

-- The bytes are no array from a row on, of which this part is there.
abbrev pub IsNoArray : Form → List ℕ → List ℕ → List ℕ → ArrayFault → Type 0
IsNoArray (Lines reading) bytes part rest fault =
    IsNoArrayText reading.texts bytes part rest fault
IsNoArray Documents bytes part rest fault = ⊥

-- What was found where there is a row, or none is left.
abbrev pub found_if : Bool → Found
found_if true = Row
found_if false = End

-- What was found in an array.
abbrev pub found_item : FoundItem → Found
found_item items.Item = Row
found_item items.End = End
found_item (items.Fault fault) = NoArray fault

-- The next line was taken, where there is one.
abbrev pub TakesLine : List ℕ → List ℕ → List ℕ → Bool → Type 0
TakesLine bytes rest line true = IsNextLine bytes line rest
TakesLine bytes rest line false = bytes ≡ []

-- The same where the bytes are known.
abbrev pub ReadsLine : Option (List ℕ) → Option (List ℕ) → List ℕ → Bool → Type 0
ReadsLine None new line is_line = ⊤
ReadsLine (Some bytes) None line is_line = ⊥
ReadsLine (Some bytes) (Some rest) line is_line = TakesLine bytes rest line is_line

-- The next row was taken, or the part of it that is there, or there is none.
abbrev pub TakesRow : Form → List ℕ → List ℕ → List ℕ → Found → Type 0
TakesRow form bytes rest row Row = IsNextRow form bytes row rest
TakesRow form bytes rest row Cut = IsCut form bytes row × (rest ≡ [])
TakesRow form bytes rest row (NoArray fault) = IsNoArray form bytes row rest fault
TakesRow form bytes rest row End = HasNoRow form bytes row rest

-- The same where the bytes are known.
abbrev pub ReadsRow : Form → Option (List ℕ) → Option (List ℕ) → List ℕ → Found → Type 0
ReadsRow form None new row found = ⊤
ReadsRow form (Some bytes) None row found = ⊥
ReadsRow form (Some bytes) (Some rest) row found = TakesRow form bytes rest row found

-- So many bytes were taken, or fewer where none is left.
pub record ReadsPart (count : ℕ) (old new : Option (List ℕ)) (part : List ℕ) : Type 0 where
  pub taken : Consumes old new part
  pub few : length part ≤ count
  pub all : length part < count → OnSome old (IsAtEnd new)

-- At most so many bytes were taken after those of before; none if the input is at its end.
pub record AppendsHeld (limit : ℕ) (old new : Option (List ℕ)) (before part : List ℕ)
    (is_end : Bool) : Type 0 where
  pub held : List ℕ
  pub appended : part ≡ before ++ held
  pub taken : Consumes old new held
  pub few : length held ≤ limit
  pub end : is_end ≡ true → 0 < limit → OnSome old (IsAtEnd new)

-- The next line was taken after those of before, and appended without its line feed; or nothing was
-- taken.
abbrev pub AppendsHeldLine : Option (List ℕ) → Option (List ℕ) → List ℕ → List ℕ → Bool → Type 0
AppendsHeldLine old new before after true = (line : List ℕ)
    × ((after ≡ before ++ line) × (IsLine line × Consumes old new (line ++ 10 ∷ [])))
AppendsHeldLine old new before after false = (after ≡ before) × Keeps old new
