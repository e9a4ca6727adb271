-- The document of a row, and why a row has none.
use Rattle.std.specs.Prelude.{◌≡◌, ◌≤◌, ℕ, List, ◌++◌, Ok, Err, Option, None, ⊤}
use Rattle.std.specs.Prelude.{IsUtf8, chars, encode_utf8_all, length, slice_get}
use Rattle.std.specs.Str.{IsValidUpTo}
use Rattle.jsonb_value.specs.TextDepth.{text_depth}
use Rattle.jsonb_value.specs.declared.parser.number.Exponents.{Exponents}
use Rattle.jsonb_value.specs.declared.error.Error.{Error}
use Rattle.jsonb_value.specs.declared.error.Error.TheVariants as errors
use Rattle.jsonb_value.specs.declared.within.ParseError.TheVariants as parsing
use Rattle.jsonb.specs.Parsing.{ParsesUnderWithin}
use Rattle.json_fault.specs.Fault.{IsFaultUnder}
use Rattle.json_fault.specs.Stop.{IsExpected}
use Rattle.json_fault.specs.declared.fault.FaultReason.{FaultReason}
use Rattle.json_fault.specs.declared.fault.FaultReason.TheVariants.{Syntax, Number}
use Rattle.jsonb_codec.specs.Depth.{IsDocumentWithin}
use Rattle.kohiblad_shell.specs.declared.input.Form.{Form}
use Rattle.kohiblad_shell.specs.declared.input.Form.TheVariants.{Lines, Documents}
use Rattle.kohiblad_shell.specs.declared.input.Reading.{Reading}
use Rattle.kohiblad_shell.specs.declared.outcome.LineFault.{LineFault}
use Rattle.kohiblad_shell.specs.declared.outcome.Reason.{Reason}
use Rattle.kohiblad_shell.specs.declared.outcome.Reason.TheVariants.{InvalidUtf8, InvalidJson}
use Rattle.kohiblad_shell.specs.declared.outcome.Reason.TheVariants.{BadNumber, TooDeep, TooLarge}
use Rattle.kohiblad_shell.specs.declared.outcome.Unanswered.{Unanswered}
use Rattle.kohiblad_shell.specs.declared.outcome.Unanswered.TheVariants.{Wrong, OutOfMemory}
use Rattle.kohiblad_shell.specs.declared.row.TheConstants.{MAX_ROW_DEPTH}
use Rattle.kohiblad_shell.specs.Faults.{bad_document, plain_fault}

-- The line is a JSON text that nests at most so deep, with exponents if they are allowed, and the
-- bytes are the canonical document of its value.
abbrev pub IsParsed : Exponents → List ℕ → List ℕ → Type 0
IsParsed rule line bytes = IsUtf8 line × ParsesUnderWithin rule MAX_ROW_DEPTH line (Ok bytes)

-- The line is no row, for this reason, and these many of its bytes are before the fault: those that
-- are UTF-8, those that begin some JSON text, or none.
abbrev pub IsFaultFor : Exponents → Reason → List ℕ → ℕ → Type 0
IsFaultFor rule InvalidUtf8 line offset = (IsUtf8 line → ⊥) × IsValidUpTo line offset
IsFaultFor rule InvalidJson line offset = IsUtf8 line × ((text_depth line ≤ MAX_ROW_DEPTH)
    × IsFaultUnder rule (chars line) (record { offset = offset; reason = Syntax }))
IsFaultFor rule BadNumber line offset = IsUtf8 line × ((text_depth line ≤ MAX_ROW_DEPTH)
    × IsFaultUnder rule (chars line) (record { offset = offset; reason = Number }))
IsFaultFor rule TooDeep line offset = IsUtf8 line
    × (ParsesUnderWithin rule MAX_ROW_DEPTH line (Err parsing.TooDeep) × (offset ≡ 0))
IsFaultFor rule TooLarge line offset = IsUtf8 line
    × (ParsesUnderWithin rule MAX_ROW_DEPTH line (Err (parsing.Refused errors.InvalidJsonb))
    × (offset ≡ 0))
IsFaultFor rule reason line offset = ⊥

-- The character that begins after so many bytes of a text; none at its end.
abbrev pub IsCharacterAt : List ℕ → ℕ → Option ℕ → Type 0
IsCharacterAt text offset found = (front back : List ℕ) → chars text ≡ front ++ back
    → offset ≡ length (encode_utf8_all front) → found ≡ slice_get back 0

-- A fault of a text that is not JSON says what could have come there, by the library's classes, and
-- what came.
abbrev pub IsExplained : Exponents → List ℕ → LineFault → Type 0
IsExplained rule text fault = IsExpected rule (chars text) fault.expected
    × IsCharacterAt text fault.offset fault.found

-- The same of a line that is wrong for this reason: of one that is no text, nests too deep or is
-- too large for a document nothing is said.
abbrev pub IsExplainedFor : Reason → Exponents → List ℕ → LineFault → Type 0
IsExplainedFor InvalidJson rule line fault = IsExplained rule line fault
IsExplainedFor BadNumber rule line fault = IsExplained rule line fault
IsExplainedFor reason rule line fault = (fault.expected ≡ 0) × (fault.found ≡ None)

-- The line is no row, for the reason of the fault, which says what could have come there and what
-- came if the line is not JSON.
abbrev pub IsLineFault : Reading → List ℕ → LineFault → Type 0
IsLineFault reading line fault = IsFaultFor reading.exponents fault.reason line fault.offset
    × IsExplainedFor fault.reason reading.exponents line fault

-- The bytes are the document of a row: that of the text of a line, or the row itself, which nests
-- at most so deep.
abbrev pub IsRow : Form → List ℕ → List ℕ → Type 0
IsRow (Lines reading) row bytes = IsParsed reading.exponents row bytes
IsRow Documents row bytes = (bytes ≡ row) × IsDocumentWithin MAX_ROW_DEPTH row

-- The row has no document, for the reason of the fault.
abbrev pub IsRowFault : Form → List ℕ → LineFault → Type 0
IsRowFault (Lines reading) row fault = IsLineFault reading row fault
IsRowFault Documents row fault =
    (IsDocumentWithin MAX_ROW_DEPTH row → ⊥) × (fault ≡ bad_document)

-- The same, or there is not enough memory.
abbrev pub IsRefusedRow : Form → List ℕ → Unanswered → Type 0
IsRefusedRow form row (Wrong fault) = IsRowFault form row fault
IsRefusedRow form row OutOfMemory = ⊤

-- The line is no row, or there is not enough memory.
abbrev pub IsRefusedLine : Reading → List ℕ → Unanswered → Type 0
IsRefusedLine reading line (Wrong fault) = IsLineFault reading line fault
IsRefusedLine reading line OutOfMemory = ⊤

-- The reason in this crate's words.
abbrev pub line_reason : FaultReason → Reason
line_reason Syntax = InvalidJson
line_reason Number = BadNumber

-- The same of a text that is not JSON: where it is at fault, what could have come there, and what
-- came.
abbrev pub IsNotJson : Reading → List ℕ → Unanswered → Type 0
IsNotJson reading text (Wrong fault) = (f : FaultReason) × ((fault.reason ≡ line_reason f)
    × (IsFaultUnder reading.exponents (chars text) (record { offset = fault.offset; reason = f })
    × IsExplained reading.exponents text fault))
IsNotJson reading text OutOfMemory = ⊤

-- An error of the library as a reason why a line has no answer: a value is too large, unless an
-- allocation failed.
abbrev pub unanswered_of : Error → Unanswered
unanswered_of errors.OutOfMemory = OutOfMemory
unanswered_of error = Wrong (plain_fault 0 TooLarge)
