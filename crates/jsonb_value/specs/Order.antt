-- The order of numbers by exact value, and the order of extension values.
use Rattle.std.specs.Prelude.{ℕ, ℤ, pos, List, [], ◌∷◌}
use Rattle.std.specs.declared.cmp.Ordering.{Ordering}
use Rattle.std.specs.Ordering.{nat_cmp, int_cmp, on, then_cmp}
use Rattle.std.specs.Cmp.Lexicographic.{slice_cmp}
use Rattle.jsonb_value.specs.declared.number.Number.{Number}
use Rattle.jsonb_value.specs.declared.number.Number.TheVariants.{Int64, UInt64, Decimal64}
use Rattle.jsonb_value.specs.declared.number.Number.TheVariants.{Decimal128}
use Rattle.jsonb_value.specs.Fraction.{Fraction, fraction_cmp}
use Rattle.jsonb_value.specs.Tree.{Extension, binary, date, timestamp, timestamp_tz, interval}
use Rattle.jsonb_value.specs.Tree.{opaque}

-- The exact value of a number, whatever its kind.
abbrev pub fraction_of : Number → Fraction
fraction_of (Int64 v) = record { value = v; scale = 0 }
fraction_of (UInt64 n) = record { value = pos n; scale = 0 }
fraction_of (Decimal64 d) = record { value = d.value; scale = d.scale }
fraction_of (Decimal128 d) = record { value = d.value; scale = d.scale }

-- Compares two numbers by their exact values.
abbrev pub number_cmp : Number → Number → Ordering
number_cmp = on fraction_of fraction_cmp

-- The position of an extension value's kind among the six, from 0.
abbrev pub extension_kind : Extension → ℕ
extension_kind (binary bytes) = 0
extension_kind (date d) = 1
extension_kind (timestamp t) = 2
extension_kind (timestamp_tz t) = 3
extension_kind (interval i) = 4
extension_kind (opaque tag bytes) = 5

-- The integers of an extension value, the most significant for the order first.
abbrev pub fields_of : Extension → List ℤ
fields_of (binary bytes) = []
fields_of (date d) = d.value ∷ []
fields_of (timestamp t) = t.value ∷ []
fields_of (timestamp_tz t) = t.value ∷ t.offset ∷ []
fields_of (interval i) = i.months ∷ i.days ∷ i.micros ∷ []
fields_of (opaque tag bytes) = pos tag ∷ []

-- The bytes of an extension value; none unless it is binary or opaque.
abbrev pub extension_data : Extension → List ℕ
extension_data (binary bytes) = bytes
extension_data (date d) = []
extension_data (timestamp t) = []
extension_data (timestamp_tz t) = []
extension_data (interval i) = []
extension_data (opaque tag bytes) = bytes

-- Compares two extension values by kind, then by their integers, then by their bytes.
abbrev pub extension_cmp : Extension → Extension → Ordering
extension_cmp = then_cmp (on extension_kind nat_cmp)
    (then_cmp (on fields_of (slice_cmp int_cmp)) (on extension_data (slice_cmp nat_cmp)))
