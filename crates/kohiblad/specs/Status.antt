-- Statuses, and bytes copied into the caller's buffer, as C receives them.
use Rattle.std.specs.Prelude.{◌≡◌, ◌==◌, ◌<◌, ◌≤◌, ◌⊎◌, if◌then◌else◌, ℕ, ℤ, pos, negsuc, List}
use Rattle.std.specs.Prelude.{length, ◌++◌, ◌-◌, ◌^◌, drop, codes, Result, Ok, Err}
use Rattle.std.specs.declared.cmp.Ordering.{Ordering}
use Rattle.std.specs.declared.cmp.Ordering.TheVariants.{Less, Equal, Greater}
use Rattle.jsonb_value.specs.declared.error.Error.{Error}
use Rattle.jsonb_value.specs.declared.error.Error.TheVariants as errors
use Rattle.jsonb_value.specs.ErrorName.{name_of}
use Rattle.jsonb_comparable.specs.Sink.{length_64}

-- An order as the integer -1, 0 or 1.
abbrev pub sign : Ordering → ℤ
sign Less = negsuc 0
sign Equal = pos 0
sign Greater = pos 1

-- The status of an error.
abbrev pub code : Error → ℕ
code errors.InvalidEOF = 1
code errors.InvalidJsonb = 2
code errors.InvalidJsonbHeader = 3
code errors.InvalidJsonbJEntry = 4
code errors.InvalidJsonbNumber = 5
code errors.InvalidJsonbExtension = 6
code errors.InvalidUtf8 = 7
code errors.ObjectDuplicateKey = 8
code errors.InvalidJson = 9
code errors.OutOfMemory = 10

-- The status of a buffer that is too small for the result.
abbrev pub no_room : ℕ
no_room = 11

-- The status of a value that does not exist.
abbrev pub none : ℕ
none = 12

-- The status of a text, or of a row in a file, that nests too deep.
abbrev pub too_deep : ℕ
too_deep = 13

-- The status of a value of another kind.
abbrev pub other_kind : ℕ
other_kind = 14

-- The status of a number that is not a whole number of 64 bits.
abbrev pub past_range : ℕ
past_range = 15

-- The status of overlapping blocks, which only the functions of the header return.
abbrev pub overlap : ℕ
overlap = 16

-- The status of a text that stops being JSON in an unfinished or too large number.
abbrev pub bad_number : ℕ
bad_number = 17

-- The status of a call that took more steps than it may.
abbrev pub too_many_steps : ℕ
too_many_steps = 18

-- The status of bytes that do not begin as a file of typed columns.
abbrev pub bad_magic : ℕ
bad_magic = 19

-- The status of a file of typed columns of another version.
abbrev pub unknown_version : ℕ
unknown_version = 20

-- The status of bytes that go on after the end of a file.
abbrev pub trailing_data : ℕ
trailing_data = 21

-- The status of a file in which a length does not fit the number of rows.
abbrev pub wrong_length : ℕ
wrong_length = 22

-- The status of a file whose contents are out of form.
abbrev pub out_of_form : ℕ
out_of_form = 23

-- The status of a file that did not give its rows back when it was read again.
abbrev pub not_read_back : ℕ
not_read_back = 24

-- The name of a status by which a path is given up.
abbrev pub path_status_name : ℕ → List ℕ
path_status_name status =
    if status == 25 then codes "MemberNotFound"
    else if status == 26 then codes "ObjectNotFound"
    else if status == 27 then codes "ArrayNotFound"
    else if status == 28 then codes "InvalidSubscript"
    else if status == 29 then codes "NonNumericItem"
    else if status == 30 then codes "SingletonRequired"
    else if status == 31 then codes "NumberNotFound"
    else if status == 32 then codes "DivisionByZero"
    else if status == 33 then codes "OutOfRange"
    else if status == 34 then codes "UndefinedVariable"
    else if status == 35 then codes "BooleanRequired"
    else codes "Unknown"

-- The name of a status.
abbrev pub status_name : ℕ → List ℕ
status_name status =
    if status == 0 then codes "Ok"
    else if status == 1 then name_of errors.InvalidEOF
    else if status == 2 then name_of errors.InvalidJsonb
    else if status == 3 then name_of errors.InvalidJsonbHeader
    else if status == 4 then name_of errors.InvalidJsonbJEntry
    else if status == 5 then name_of errors.InvalidJsonbNumber
    else if status == 6 then name_of errors.InvalidJsonbExtension
    else if status == 7 then name_of errors.InvalidUtf8
    else if status == 8 then name_of errors.ObjectDuplicateKey
    else if status == 9 then name_of errors.InvalidJson
    else if status == 10 then name_of errors.OutOfMemory
    else if status == no_room then codes "NoRoom"
    else if status == none then codes "None"
    else if status == too_deep then codes "TooDeep"
    else if status == other_kind then codes "OtherKind"
    else if status == past_range then codes "PastRange"
    else if status == overlap then codes "Overlap"
    else if status == bad_number then codes "BadNumber"
    else if status == too_many_steps then codes "TooManySteps"
    else if status == bad_magic then codes "BadMagic"
    else if status == unknown_version then codes "UnknownVersion"
    else if status == trailing_data then codes "TrailingData"
    else if status == wrong_length then codes "WrongLength"
    else if status == out_of_form then codes "OutOfForm"
    else if status == not_read_back then codes "NotReadBack"
    else path_status_name status

-- The result was copied to the start of the buffer, and the rest is unchanged.
abbrev pub IsCopied : {A : Type 0} → List A → List A → List A → Type 0
IsCopied answer before after =
    (length answer ≤ length before) × (after ≡ answer ++ drop (length answer) before)

-- The whole result was copied, or the buffer is too small and unchanged; in any case its length is
-- stored.
abbrev pub IsHandedOver : {A : Type 0} → List A → List A → List A → ℕ → ℕ → Type 0
IsHandedOver answer before after size status =
    (size ≡ length answer)
    × (((status ≡ 0) × IsCopied answer before after)
    ⊎ ((status ≡ no_room) × ((length before < length answer) × (after ≡ before))))

-- The buffer is shorter than the result, or the result is longer than any memory.
abbrev pub IsTooLong : List ℕ → List ℕ → Type 0
IsTooLong answer before = (length before < length answer) ⊎ (length_64 answer ≡ 2 ^ 64 - 1)

-- The whole result was copied, or it is too long and the buffer unchanged; in any case its length
-- is stored, in 64 bits.
abbrev pub IsLongHandedOver : List ℕ → List ℕ → List ℕ → ℕ → ℕ → Type 0
IsLongHandedOver answer before after size status =
    (size ≡ length_64 answer)
    × (((status ≡ 0) × IsCopied answer before after)
    ⊎ ((status ≡ no_room) × (IsTooLong answer before × (after ≡ before))))

-- Only this status is returned: the buffer is unchanged, and the length is 0.
abbrev pub IsRefused : {A : Type 0} → ℕ → List A → List A → ℕ → ℕ → Type 0
IsRefused reason before after size status = (status ≡ reason) × ((size ≡ 0) × (after ≡ before))

-- The bytes are handed over, or the status of the error is returned.
abbrev pub IsAnswered : Result (List ℕ) Error → List ℕ → List ℕ → ℕ → ℕ → Type 0
IsAnswered (Ok answer) before after size status = IsHandedOver answer before after size status
IsAnswered (Err e) before after size status = IsRefused (code e) before after size status

-- One of these results is the answer.
abbrev pub IsOneAnswered : (Result (List ℕ) Error → Type 0) → List ℕ → List ℕ → ℕ → ℕ → Type 0
IsOneAnswered Results before after size status =
    (r : Result (List ℕ) Error) × (Results r × IsAnswered r before after size status)
