-- What the buffers of a file hold.
use Rattle.std.specs.Prelude.{◌≡◌, ◌<◌, ◌≤◌, ◌+◌, ◌-◌, ◌*◌, ◌/◌, ◌%◌, ◌==◌, not, ⊤, ℕ, pos, Bool}
use Rattle.std.specs.Prelude.{List, [], Option, None, Some, if◌then◌else◌, length, take, drop}
use Rattle.std.specs.Prelude.{get_or, nat_lt, option_map}
use Rattle.std.specs.Int.{w32, w64, w128, bit_at, cast_signed, div_ceil}
use Rattle.std.specs.Str.{IsUtf8}
use Rattle.byteorder.specs.Endian.{big_number}
use Rattle.jsonb_value.specs.Json.Numeral.{number_of}
use Rattle.jsonb_value.specs.declared.extension.Date.{Date}
use Rattle.jsonb_value.specs.declared.extension.Interval.{Interval}
use Rattle.jsonb_value.specs.declared.extension.Timestamp.{Timestamp}
use Rattle.jsonb_value.specs.declared.extension.TimestampTz.{TimestampTz}
use Rattle.jsonb_value.specs.Tree.{Extension, Tree, binary, boolean, date, extension, interval}
use Rattle.jsonb_value.specs.Tree.{number, text, timestamp, timestamp_tz}
use Rattle.jsonb_typed.specs.declared.scalar.ScalarType.{ScalarType}
use Rattle.jsonb_typed.specs.declared.scalar.ScalarType.TheVariants as types
use Rattle.jsonb_typed_file.specs.Layout.{Parts}

-- The number in so many bytes, the highest first, at an index.
abbrev pub number_at : ℕ → ℕ → List ℕ → ℕ
number_at size index bytes = big_number size (drop (size * index) bytes)

-- The string between an offset and the next.
abbrev pub string_at : List ℕ → List ℕ → ℕ → List ℕ
string_at offsets bytes index =
    take (number_at 8 (index + 1) offsets - number_at 8 index offsets)
    (drop (number_at 8 index offsets) bytes)

-- The offset is not above the next, and this one is within the bytes.
abbrev pub IsSpanAt : List ℕ → List ℕ → ℕ → Type 0
IsSpanAt offsets bytes index =
    (number_at 8 index offsets ≤ number_at 8 (index + 1) offsets)
    × (number_at 8 (index + 1) offsets ≤ length bytes)

-- How many bytes a value takes in the numbers of a column; of texts and binary values, an offset.
abbrev pub value_size : ScalarType → ℕ
value_size types.Boolean = 1
value_size types.Int64 = 8
value_size types.UInt64 = 8
value_size (types.Decimal scale) = 16
value_size types.Text = 8
value_size types.Date = 4
value_size types.Timestamp = 8
value_size types.ZonedTimestamp = 12
value_size types.Interval = 16
value_size types.Binary = 8

-- The date in the first four bytes.
abbrev pub date_in : List ℕ → Date
date_in bytes = record { value = cast_signed w32 (big_number 4 bytes) }

-- The timestamp in the first eight bytes.
abbrev pub timestamp_in : List ℕ → Timestamp
timestamp_in bytes = record { value = cast_signed w64 (big_number 8 bytes) }

-- The timestamp in the first eight bytes, with the offset of its time zone in the next four.
abbrev pub zoned_timestamp_in : List ℕ → TimestampTz
zoned_timestamp_in bytes = record {
  offset = cast_signed w32 (big_number 4 (drop 8 bytes));
  value = cast_signed w64 (big_number 8 bytes);
}

-- Months in the first four bytes, days in the next four and microseconds in the next eight.
abbrev pub interval_in : List ℕ → Interval
interval_in bytes = record {
  months = cast_signed w32 (big_number 4 bytes);
  days = cast_signed w32 (big_number 4 (drop 4 bytes));
  micros = cast_signed w64 (big_number 8 (drop 8 bytes));
}

-- The extension value in the first bytes, of a type whose values all take as many.
abbrev pub extension_at : ScalarType → List ℕ → Option Extension
extension_at types.Date bytes = Some (date (date_in bytes))
extension_at types.Timestamp bytes = Some (timestamp (timestamp_in bytes))
extension_at types.ZonedTimestamp bytes = Some (timestamp_tz (zoned_timestamp_in bytes))
extension_at types.Interval bytes = Some (interval (interval_in bytes))
extension_at type bytes = None

-- The value in the first bytes, of a type whose values all take as many.
abbrev pub fixed_value : ScalarType → List ℕ → Option Tree
fixed_value types.Boolean bytes = Some (boolean (not (get_or bytes 0 0 == 0)))
fixed_value types.Int64 bytes =
    option_map number (number_of 0 (cast_signed w64 (big_number 8 bytes)))
fixed_value types.UInt64 bytes = option_map number (number_of 0 (pos (big_number 8 bytes)))
fixed_value (types.Decimal scale) bytes =
    option_map number (number_of scale (cast_signed w128 (big_number 16 bytes)))
fixed_value type bytes = option_map extension (extension_at type bytes)

-- The value of a row in the buffers of a column of the type.
abbrev pub value_tree : ScalarType → List ℕ → List ℕ → ℕ → Option Tree
value_tree types.Text numbers texts index = Some (text (string_at numbers texts index))
value_tree types.Binary numbers texts index =
    Some (extension (binary (string_at numbers texts index)))
value_tree type numbers texts index =
    fixed_value type (drop (value_size type * index) numbers)

-- Whether a row has a value in the column.
abbrev pub is_set : List ℕ → ℕ → Bool
is_set flags index = bit_at (get_or flags (index / 8) 0) (index % 8) == 1

-- The value of a row in a column, if its flag is set.
abbrev pub column_cell : Parts → ℕ → Option Tree
column_cell p index =
    if is_set p.flags index then value_tree p.type p.numbers p.texts index else None

-- The same of an index that may not be below the number of rows.
abbrev pub cell_within : ℕ → Parts → ℕ → Option Tree
cell_within rows p index = if nat_lt index rows then column_cell p index else None

-- How many bytes the numbers of so many rows take: of texts and binary values one offset more.
abbrev pub number_size : ScalarType → ℕ → ℕ
number_size types.Text rows = 8 * (rows + 1)
number_size types.Binary rows = 8 * (rows + 1)
number_size type rows = value_size type * rows

-- Only a column of texts or binary values has bytes of them.
abbrev pub HasTexts : ScalarType → List ℕ → Type 0
HasTexts types.Text texts = ⊤
HasTexts types.Binary texts = ⊤
HasTexts type texts = texts ≡ []

-- The lengths of the buffers fit so many rows.
pub record HasRows (rows : ℕ) (p : Parts) : Type 0 where
  pub flags : length p.flags ≡ div_ceil rows 8
  pub numbers : length p.numbers ≡ number_size p.type rows
  pub texts : HasTexts p.type p.texts

-- The text of a row is UTF-8 within the bytes, or its binary value is within them.
abbrev pub IsTextOfRow : ScalarType → List ℕ → List ℕ → ℕ → Type 0
IsTextOfRow types.Text numbers texts index =
    IsSpanAt numbers texts index × IsUtf8 (string_at numbers texts index)
IsTextOfRow types.Binary numbers texts index = IsSpanAt numbers texts index
IsTextOfRow type numbers texts index = ⊤

-- The text of each row is UTF-8 within the bytes, or its binary value is within them.
abbrev pub AreColumnTexts : ℕ → Parts → Type 0
AreColumnTexts rows p = (index : ℕ) → index < rows → IsTextOfRow p.type p.numbers p.texts index

-- The lengths of the buffers fit so many rows, and the texts are UTF-8 or the binary values within
-- their bytes.
pub record IsChecked (rows : ℕ) (p : Parts) : Type 0 where
  pub size : HasRows rows p
  pub texts : AreColumnTexts rows p

-- A column of so many rows.
pub record Column : Type 0 where
  pub rows : ℕ
  pub parts : Parts
