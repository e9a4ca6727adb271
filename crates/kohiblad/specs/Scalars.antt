-- What C receives for scalar documents.
use Rattle.std.specs.Prelude.{◌≡◌, ℕ, ℤ, pos, ◌*ℤ◌, ◌+ℤ◌, ◌^◌, ◌==◌, ◌&&◌, if◌then◌else◌, Bool}
use Rattle.std.specs.Prelude.{true, false, not, negsuc, List, [], length, ◌<◌}
use Rattle.jsonb_value.specs.declared.error.Error.TheVariants as errors
use Rattle.jsonb_value.specs.declared.number.Number.{Number}
use Rattle.jsonb_value.specs.declared.number.Number.TheVariants.{Int64, UInt64, Decimal64}
use Rattle.jsonb_value.specs.declared.number.Number.TheVariants.{Decimal128}
use Rattle.jsonb_value.specs.ExtCode.{extension_payload}
use Rattle.jsonb_value.specs.NumCode.{is_within}
use Rattle.jsonb_value.specs.Tree.{Extension, binary, date, timestamp, timestamp_tz, interval}
use Rattle.jsonb_value.specs.Tree.{opaque}
use Rattle.jsonb_value.specs.WellFormed.{IsExtension}
use Rattle.jsonb_codec.specs.declared.constants.TheConstants.{STRING_TAG}
use Rattle.kohiblad.specs.declared.documents.KohibladKind.{KohibladKind}
use Rattle.kohiblad.specs.declared.places.KohibladPlace.{KohibladPlace}
use Rattle.kohiblad.specs.declared.scalar.numbers.KohibladDecimal.{KohibladDecimal}
use Rattle.kohiblad.specs.declared.scalar.extensions.KohibladExtension.{KohibladExtension}
use Rattle.kohiblad.specs.declared.scalar.numbers.KohibladInteger.{KohibladInteger}
use Rattle.kohiblad.specs.declared.scalar.KohibladTruth.{KohibladTruth}
use Rattle.kohiblad.specs.Status.{code, other_kind, past_range}

-- The status for bytes that are not the document of a scalar of the wanted kind, by the kind that
-- they show: none, another one, or the wanted one without being a document.
abbrev pub why_none : ℕ → KohibladKind → ℕ
why_none wanted shown =
    if shown.status == 0
    then (if shown.kind == wanted then code errors.InvalidJsonb else other_kind)
    else shown.status

-- A number without its point.
abbrev pub coefficient : Number → ℤ
coefficient (Int64 v) = v
coefficient (UInt64 n) = pos n
coefficient (Decimal64 d) = d.value
coefficient (Decimal128 d) = d.value

-- The count of a number's digits after the point.
abbrev pub scale : Number → ℕ
scale (Int64 v) = 0
scale (UInt64 n) = 0
scale (Decimal64 d) = d.scale
scale (Decimal128 d) = d.scale

-- The whole number of two halves.
abbrev pub from_halves : ℤ → ℕ → ℤ
from_halves high low = (high *ℤ pos (2 ^ 64)) +ℤ pos low

-- The two halves make the number without its point, and the scale is its own.
pub record IsDecimalOf (x : Number) (answer : KohibladDecimal) : Type 0 where
  pub status : answer.status ≡ 0
  pub scale : answer.scale ≡ scale x
  pub value : from_halves answer.high answer.low ≡ coefficient x

-- A decimal with this status, and 0 in all fields.
abbrev pub no_decimal : ℕ → KohibladDecimal
no_decimal status = record { status = status; scale = 0; high = pos 0; low = 0 }

-- A whole number with this status and the value 0.
abbrev pub no_integer : ℕ → KohibladInteger
no_integer status = record { status = status; value = pos 0 }

-- A number as a whole one of 64 bits, or `PAST_RANGE` if it has digits after its point or is out of
-- range.
abbrev pub int64_answer : Number → KohibladInteger
int64_answer x =
    if (scale x == 0) && is_within 63 (coefficient x)
    then record { status = 0; value = coefficient x }
    else no_integer past_range

-- The position of the bytes in the document of a text: after two words.
abbrev pub text_place : ℕ → KohibladPlace
text_place n = record { status = 0; type_code = STRING_TAG; offset = 8; length = n }

-- A position with this status, and 0 in all fields.
abbrev pub no_place : ℕ → KohibladPlace
no_place status = record { status = status; type_code = 0; offset = 0; length = 0 }

-- A truth value as C receives it: 0 or 1.
abbrev pub truth_answer : Bool → KohibladTruth
truth_answer true = record { status = 0; value = 1 }
truth_answer false = record { status = 0; value = 0 }

-- A truth value with this status and the value 0.
abbrev pub no_truth : ℕ → KohibladTruth
no_truth status = record { status = status; value = 0 }

-- The truth value of a number: false for 0, true for all others.
abbrev pub is_nonzero : ℕ → Bool
is_nonzero value = not (value == 0)

-- A whole number with the kind that its digits have when they are parsed.
abbrev pub int64_number : ℤ → Number
int64_number (pos n) = UInt64 n
int64_number (negsuc n) = Int64 (negsuc n)

-- An extension value with this status, and 0 in all fields.
abbrev pub no_extension : ℕ → KohibladExtension
no_extension status = record {
  status = status;
  tag = 0;
  value = pos 0;
  months = pos 0;
  days = pos 0;
  seconds = pos 0;
  offset = 0;
  length = 0;
}

-- The answer for a value that has data. They follow the tag, which follows two words.
abbrev pub data_answer : ℕ → ℕ → KohibladExtension
data_answer tag n = record (no_extension 0) { tag = tag; offset = 9; length = n }

-- The answer for a date or a timestamp, with the offset of its zone.
abbrev pub time_answer : ℕ → ℤ → ℤ → KohibladExtension
time_answer tag value seconds =
    record (no_extension 0) { tag = tag; value = value; seconds = seconds }

-- The tag of an extension value, the first byte of its payload, and its fields.
abbrev pub extension_answer : Extension → KohibladExtension
extension_answer (binary bytes) = data_answer 0 (length bytes)
extension_answer (date d) = time_answer 16 d.value (pos 0)
extension_answer (timestamp t) = time_answer 32 t.value (pos 0)
extension_answer (timestamp_tz t) = time_answer 48 t.value t.offset
extension_answer (interval i) =
    record (no_extension 0) { tag = 64; value = i.micros; months = i.months; days = i.days }
extension_answer (opaque tag bytes) = data_answer tag (length bytes)

-- The bytes are few enough for a payload.
abbrev pub IsShortPayload : List ℕ → Type 0
IsShortPayload bytes = length bytes < 2 ^ 28

-- The data of an extension value: none unless its tag has some.
abbrev pub data_of : Extension → List ℕ
data_of (binary bytes) = bytes
data_of (opaque tag bytes) = bytes
data_of e = []

-- An extension value has this tag and these fields, as `extension_answer` has them, and this
-- content as its data.
pub record IsGivenBy (e : Extension) (given_tag : ℕ) (given : ℤ) (given_months : ℤ)
    (given_days : ℤ) (given_seconds : ℤ) (given_content : List ℕ) : Type 0 where
  pub is : IsExtension e
  pub tag : (extension_answer e).tag ≡ given_tag
  pub value : (extension_answer e).value ≡ given
  pub months : (extension_answer e).months ≡ given_months
  pub days : (extension_answer e).days ≡ given_days
  pub seconds : (extension_answer e).seconds ≡ given_seconds
  pub content : data_of e ≡ given_content

-- The payload is short enough for an entry.
abbrev pub IsShortExtension : Extension → Type 0
IsShortExtension e = length (extension_payload e) < 2 ^ 28
