-- The chunk of a column of numbers: which rows have one, and the numbers in the shorter kind.
use Rattle.std.specs.Prelude.{ℕ, ℤ, ◌++◌, ◌&&◌, Bool, true, false, List, [], ◌∷◌}
use Rattle.std.specs.Prelude.{if◌then◌else◌, length, nat_lt}
use Rattle.std.specs.Int.{w64}
use Rattle.typed_chunk.specs.Flags.{all_have, flags, some_has}
use Rattle.typed_chunk.specs.Frame.{frame, least_value, signed_word}
use Rattle.typed_chunk.specs.Rising.{rises, rising}
use Rattle.typed_vector.specs.ZoneMap.{set_values}

-- The values, with this one in place of each that is not set.
abbrev pub with_unset : ℤ → List ℤ → List Bool → List ℤ
with_unset least [] has = []
with_unset least (value ∷ values) [] = []
with_unset least (value ∷ values) (true ∷ has) = value ∷ with_unset least values has
with_unset least (value ∷ values) (false ∷ has) = least ∷ with_unset least values has

-- The values, with the least of those that are set in place of each that is not.
abbrev pub filled : List ℤ → List Bool → List ℤ
filled values has = with_unset (least_value (set_values values has)) values has

-- Whether values take fewer bytes as rising ones than as a frame: all rows have one, there are two,
-- none is below the one before it, and these bytes are fewer.
abbrev pub rises_shorter : Bool → List ℤ → Bool
rises_shorter all values =
    all && (nat_lt 1 (length values) && (rises values
    && nat_lt (length (rising w64 values)) (length (frame (signed_word w64) values))))

-- The kind of values, and they: 1 and rising ones where these are shorter, else 0 and a frame.
abbrev pub number_kind : Bool → List ℤ → List ℕ
number_kind all values =
    if rises_shorter all values then 1 ∷ rising w64 values
    else 0 ∷ frame (signed_word w64) values

-- The kind and the values of the rows, or nothing if no row has a value.
abbrev pub values_bytes : List ℤ → List Bool → List ℕ
values_bytes values has =
    if some_has has then number_kind (all_have has) (filled values has) else []

-- The chunk: the flags of the rows, the kind and the values.
abbrev pub number_chunk : List ℤ → List Bool → List ℕ
number_chunk values has = flags has ++ values_bytes values has
