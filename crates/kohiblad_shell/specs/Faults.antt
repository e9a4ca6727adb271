-- Faults of lines, and the lines that report them.
use Rattle.std.specs.Prelude.{ℕ, suc, Bool, true, false, List, [], ◌∷◌, ◌++◌, None, codes, length}
use Rattle.std.specs.Fmt.{decimal}
use Rattle.kohiblad_shell.specs.Escapes.{escaped_text}
use Rattle.kohiblad_shell.specs.Expected.{expected_text}
use Rattle.kohiblad_shell.specs.declared.outcome.LineFault.{LineFault}
use Rattle.kohiblad_shell.specs.declared.outcome.Reason.{Reason}
use Rattle.kohiblad_shell.specs.declared.outcome.Reason.TheVariants.{InvalidUtf8, InvalidJson}
use Rattle.kohiblad_shell.specs.declared.outcome.Reason.TheVariants.{BadNumber, TooDeep, TooLarge}
use Rattle.kohiblad_shell.specs.declared.outcome.Reason.TheVariants.{BadDocument, Cut, NotSorted}
use Rattle.kohiblad_shell.specs.declared.outcome.Reason.TheVariants.{GivenUp, NoArray, NotOfType}
use Rattle.array_items.specs.declared.array.ArrayFault.{ArrayFault}
use Rattle.array_items.specs.declared.array.ArrayFault.TheVariants as arrays
use Rattle.jsonb_path.specs.declared.path.PathError.{PathError}
use Rattle.jsonb_path.specs.declared.path.PathError.TheVariants as errors

-- The word for why a path is given up.
abbrev pub path_error_name : PathError → List ℕ
path_error_name errors.MemberNotFound = codes "MemberNotFound"
path_error_name errors.ObjectNotFound = codes "ObjectNotFound"
path_error_name errors.ArrayNotFound = codes "ArrayNotFound"
path_error_name errors.InvalidSubscript = codes "InvalidSubscript"
path_error_name errors.NonNumericItem = codes "NonNumericItem"
path_error_name errors.SingletonRequired = codes "SingletonRequired"
path_error_name errors.NumberNotFound = codes "NumberNotFound"
path_error_name errors.DivisionByZero = codes "DivisionByZero"
path_error_name errors.OutOfRange = codes "OutOfRange"
path_error_name errors.UndefinedVariable = codes "UndefinedVariable"
path_error_name errors.BooleanRequired = codes "BooleanRequired"

-- The word for why an input is no array.
abbrev pub array_fault_name : ArrayFault → List ℕ
array_fault_name arrays.NoArray = codes "NoArray"
array_fault_name arrays.NoItem = codes "NoItem"
array_fault_name arrays.NoComma = codes "NoComma"
array_fault_name arrays.NoEnd = codes "NoEnd"
array_fault_name arrays.AfterEnd = codes "AfterEnd"

-- The word for a reason.
abbrev pub reason_name : Reason → List ℕ
reason_name InvalidUtf8 = codes "InvalidUtf8"
reason_name InvalidJson = codes "InvalidJson"
reason_name BadNumber = codes "BadNumber"
reason_name TooDeep = codes "TooDeep"
reason_name TooLarge = codes "TooLarge"
reason_name BadDocument = codes "InvalidJsonb"
reason_name Cut = codes "InvalidEOF"
reason_name NotSorted = codes "NotSorted"
reason_name NotOfType = codes "NotOfType"
reason_name (GivenUp error) = path_error_name error
reason_name (NoArray fault) = array_fault_name fault

-- Whether the row is cut off, or the input is no array from it on.
abbrev pub is_cut : Reason → Bool
is_cut Cut = true
is_cut (NoArray fault) = true
is_cut reason = false

-- The fault after so many bytes of a row of which nothing is said that could have come there.
abbrev pub plain_fault : ℕ → Reason → LineFault
plain_fault offset reason =
    record { offset = offset; reason = reason; expected = 0; found = None }

-- The fault of a row of documents that is no document, or nests too deep.
abbrev pub bad_document : LineFault
bad_document = plain_fault 0 BadDocument

-- The fault of a row that is cut off after these bytes.
abbrev pub cut_after : List ℕ → LineFault
cut_after part = plain_fault (length part) Cut

-- The fault of a row at which the input is no array, after these bytes of it.
abbrev pub no_array_after : List ℕ → ArrayFault → LineFault
no_array_after part fault = plain_fault (length part) (NoArray fault)

-- The reason of a fault, and what could have come there and what came, if that is said.
unfoldable pub reason_text : LineFault → List ℕ
reason_text fault = reason_name fault.reason ++ expected_text fault.expected fault.found

-- The line that reports a fault, with its line feed: the name of the input with escapes, the number
-- of the line and of the byte, both counted from 1, the reason, and what could have come and what
-- came, if that is said.
abbrev pub fault_line : List ℕ → ℕ → LineFault → List ℕ
fault_line name number fault = escaped_text name ++ codes ":" ++ decimal number ++ codes ":"
    ++ decimal (suc fault.offset) ++ codes ": " ++ reason_text fault ++ 10 ∷ []
