-- What commands read of their arguments.
use Rattle.std.specs.Prelude.{◌≡◌, ◌&&◌, ◌||◌, ℕ, Bool, true, false, List, [], Option, None, Some}
use Rattle.std.specs.Prelude.{codes, if◌then◌else◌, option_map}
use Rattle.std.specs.Str.{bytes_eq}
use Rattle.clap.specs.Matches.{first_value, found_of, matched_of, one_text, raw_values}
use Rattle.clap.specs.declared.parser.matches.ArgMatches.{ArgMatches}
use Rattle.jsonb_value.specs.declared.parser.number.Exponents.{Exponents}
use Rattle.jsonb_value.specs.declared.parser.number.Exponents.TheVariants.{Forbidden, Allowed}
use Rattle.kohiblad_shell.specs.declared.input.Form.{Form}
use Rattle.kohiblad_shell.specs.declared.input.Form.TheVariants.{Lines, Documents}
use Rattle.kohiblad_shell.specs.declared.input.Reading.{Reading}
use Rattle.kohiblad_shell.specs.declared.input.TextForm.{TextForm}
use Rattle.kohiblad_shell.specs.declared.input.TextForm.TheVariants as texts
use Rattle.kohiblad_shell.specs.declared.operation.TextLayout.{TextLayout}
use Rattle.kohiblad_shell.specs.declared.operation.TextLayout.TheVariants.{Compact, Pretty}
use Rattle.kohiblad_shell.specs.declared.operation.Style.{Style}
use Rattle.kohiblad_shell.specs.declared.operation.Style.TheVariants.{Raw}
use Rattle.kohiblad_shell.specs.declared.operation.Style.TheVariants as styles
use Rattle.kohiblad_shell.specs.declared.table_text.TableLayout.{TableLayout}
use Rattle.kohiblad_shell.specs.declared.table_text.TableLayout.TheVariants.{Csv, Tsv}
use Rattle.kohiblad_shell.specs.declared.operand_kind.ValueKind.{ValueKind}
use Rattle.kohiblad_shell.specs.declared.operand_kind.ValueKind.TheVariants.{Json, Text}

-- A text, or the empty one if there is none.
abbrev pub text_or_empty : Option (List ℕ) → List ℕ
text_or_empty None = []
text_or_empty (Some text) = text

-- The first value of an argument as text, or the empty one.
abbrev pub value_of : ArgMatches → List ℕ → List ℕ
value_of arguments id = text_or_empty (first_value (found_of arguments) id)

-- A text, or another one if there is none.
abbrev pub text_or : List ℕ → Option (List ℕ) → List ℕ
text_or other None = other
text_or other (Some text) = text

-- All values of an argument, if it has any.
abbrev pub values_of : ArgMatches → List ℕ → Option (List (List ℕ))
values_of arguments id = option_map raw_values (matched_of (found_of arguments) id)

-- A flag is set if its text is `true`, and is not if it has none or the text is `false`.
abbrev pub IsFlagText : Option (List ℕ) → Bool → Type 0
IsFlagText None flag = flag ≡ false
IsFlagText (Some text) flag =
    (text ≡ codes "true" → flag ≡ true) × (text ≡ codes "false" → flag ≡ false)

abbrev pub IsFlag : ArgMatches → List ℕ → Bool → Type 0
IsFlag arguments id flag = IsFlagText (one_text (found_of arguments) id) flag

-- Whether strings are written without quotes.
abbrev pub is_raw : Style → Bool
is_raw Raw = true
is_raw styles.Json = false

-- Whether the values among the operands are texts.
abbrev pub are_texts : ValueKind → Bool
are_texts Text = true
are_texts Json = false

-- Whether numbers of lines may have exponents, by the word for it, or if there is none they may.
abbrev pub exponents_of : Option (List ℕ) → Exponents
exponents_of None = Allowed
exponents_of (Some word) = if bytes_eq word (codes "refuse") then Forbidden else Allowed

-- The form of rows that are documents, or of lines that are read so.
abbrev pub form_of : Bool → Reading → Form
form_of true reading = Documents
form_of false reading = Lines reading

-- Whether rows are documents.
abbrev pub are_documents : Form → Bool
are_documents Documents = true
are_documents (Lines reading) = false

-- Whether texts are values one after another.
abbrev pub is_values : TextForm → Bool
is_values texts.Values = true
is_values texts = false

-- Whether texts are the items of an array.
abbrev pub is_items : TextForm → Bool
is_items texts.Items = true
is_items texts = false

-- The same of rows.
abbrev pub are_values : Form → Bool
are_values Documents = false
are_values (Lines reading) = is_values reading.texts

abbrev pub are_items : Form → Bool
are_items Documents = false
are_items (Lines reading) = is_items reading.texts

-- How texts stand that are the items of an array, or else values, or else lines.
abbrev pub texts_of : Bool → Bool → TextForm
texts_of true are_values = texts.Items
texts_of false true = texts.Values
texts_of false false = texts.Lines

-- Whether each item and member has a line of its own.
abbrev pub is_pretty : TextLayout → Bool
is_pretty Pretty = true
is_pretty Compact = false

-- Whether values have tabs between them.
abbrev pub is_tsv : TableLayout → Bool
is_tsv Tsv = true
is_tsv Csv = false

-- Whether a run stops at a wrong line, by the word for it, or if there is none as is usual.
abbrev pub stops_of : Option (List ℕ) → Bool → Bool
stops_of None usual = usual
stops_of (Some word) usual = bytes_eq word (codes "stop")

-- Whether a line says how far a run is, by the word for it: `always`, `never`, or as is usual.
abbrev pub shows_of : Option (List ℕ) → Bool → Bool
shows_of None usual = usual
shows_of (Some word) usual =
    if bytes_eq word (codes "always") then true
    else if bytes_eq word (codes "never") then false
    else usual

-- Whether words have colors: as their word says, or if it is `auto` or there is none, if a terminal
-- shows them.
abbrev pub colors_of : Option (List ℕ) → Bool → Bool
colors_of None is_terminal = is_terminal
colors_of (Some word) is_terminal =
    bytes_eq word (codes "always") || (bytes_eq word (codes "auto") && is_terminal)
