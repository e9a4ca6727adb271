-- How many bytes the values of a column take.
use Rattle.std.proofs.Common.{◌≡◌, ℕ, ◌+◌, ◌-◌, ◌*◌, ◌<◌, ◌≤◌, List, length, take, drop, arith}
use Rattle.std.proofs.lemmas.List.{length-drop, take_all}
use Rattle.jsonb_typed.specs.declared.scalar.ScalarType.{ScalarType}
use Rattle.jsonb_typed.specs.declared.scalar.ScalarType.TheVariants as types
use Rattle.jsonb_typed_file.specs.Values.{number_size, value_size}

-- The value of a row is within the numbers of all rows.
pub value_within : (type : ScalarType) (rows index : ℕ) → index < rows
    → value_size type * index + value_size type ≤ number_size type rows
value_within types.Boolean rows index low = omega (arith, low)
value_within types.Int64 rows index low = omega (arith, low)
value_within types.UInt64 rows index low = omega (arith, low)
value_within (types.Decimal scale) rows index low = omega (arith, low)
value_within types.Text rows index low = omega (arith, low)
value_within types.Date rows index low = omega (arith, low)
value_within types.Timestamp rows index low = omega (arith, low)
value_within types.ZonedTimestamp rows index low = omega (arith, low)
value_within types.Interval rows index low = omega (arith, low)
value_within types.Binary rows index low = omega (arith, low)

-- No value takes more than 16 bytes.
pub values_few : (type : ScalarType) (rows : ℕ) → value_size type * rows ≤ 16 * rows
values_few types.Boolean rows = omega arith
values_few types.Int64 rows = omega arith
values_few types.UInt64 rows = omega arith
values_few (types.Decimal scale) rows = omega arith
values_few types.Text rows = omega arith
values_few types.Date rows = omega arith
values_few types.Timestamp rows = omega arith
values_few types.ZonedTimestamp rows = omega arith
values_few types.Interval rows = omega arith
values_few types.Binary rows = omega arith

-- The bytes after so many are all that are left.
pub all_after : (n : ℕ) (bytes : List ℕ)
    → take (length bytes - n) (drop n bytes) ≡ drop n bytes
all_after n bytes =
    take_all (length bytes - n) (drop n bytes) (omega (arith, length-drop n bytes))
