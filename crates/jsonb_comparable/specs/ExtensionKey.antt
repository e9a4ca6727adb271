-- The keys of extension values.
use Rattle.std.specs.Prelude.{ℕ, ℤ, pos, negsuc, suc, ◌+◌, ◌-◌, ◌^◌, List, ◌∷◌, ◌++◌}
use Rattle.std.specs.Int.{w32, w64, to_be_bytes}
use Rattle.jsonb_value.specs.Order.{extension_kind}
use Rattle.jsonb_value.specs.Tree.{Extension, binary, date, timestamp, timestamp_tz, interval}
use Rattle.jsonb_value.specs.Tree.{opaque}
use Rattle.jsonb_comparable.specs.Escaped.{escaped}

-- A signed number plus a bias that makes it unsigned.
abbrev pub biased : ℕ → ℤ → ℕ
biased bias (pos n) = bias + n
biased bias (negsuc n) = bias - suc n

-- A signed number of 32 bits, biased by 2 ^ 31, in big-endian bytes.
unfoldable pub biased_32 : ℤ → List ℕ
biased_32 v = to_be_bytes w32 (biased (2 ^ 31) v)

-- A signed number of 64 bits, biased by 2 ^ 63, in big-endian bytes.
unfoldable pub biased_64 : ℤ → List ℕ
biased_64 v = to_be_bytes w64 (biased (2 ^ 63) v)

-- The fields of an extension value, in the order in which they are compared.
abbrev pub fields_key : Extension → List ℕ
fields_key (binary bytes) = escaped bytes
fields_key (date d) = biased_32 d.value
fields_key (timestamp t) = biased_64 t.value
fields_key (timestamp_tz t) = biased_64 t.value ++ biased_32 t.offset
fields_key (interval i) = biased_32 i.months ++ (biased_32 i.days ++ biased_64 i.micros)
fields_key (opaque tag bytes) = tag ∷ escaped bytes

-- 16 plus the kind's number, and the fields
abbrev pub extension_key : Extension → List ℕ
extension_key e = (16 + extension_kind e) ∷ fields_key e
