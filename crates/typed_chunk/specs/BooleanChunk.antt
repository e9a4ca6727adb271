-- The chunk of a column of booleans: which rows have one, and they as numbers of 1 byte.
use Rattle.std.specs.Prelude.{ℕ, ℤ, pos, ◌++◌, ◌==◌, ◌&&◌, Bool, true, false, not, List, [], ◌∷◌}
use Rattle.std.specs.Prelude.{Option, Some, None, cond, if◌then◌else◌, length, map, nat_lt}
use Rattle.std.specs.List.{list_all}
use Rattle.typed_chunk.specs.Flags.{all_have, flags, rows_of, some_has}
use Rattle.typed_chunk.specs.Frame.{frame, naturals_fault, numbers_in, unsigned_word}
use Rattle.typed_chunk.specs.Headed.{first_fault}
use Rattle.typed_chunk.specs.NumberChunk.{filled}
use Rattle.typed_chunk.specs.declared.fault.ChunkFault.{ChunkFault}
use Rattle.typed_chunk.specs.declared.fault.ChunkFault.TheVariants.{NoSuchKind, NumberOfNoValue}
use Rattle.typed_chunk.specs.declared.fault.ChunkFault.TheVariants.{ValueOutOfRange, WrongLength}
use Rattle.typed_vector.specs.ZoneMap.{set_values}

-- The number of each boolean: 1 if it is true.
abbrev pub numbers_of : List Bool → List ℤ
numbers_of values = map (λ value. pos (cond value 1 0)) values

-- The kind and the booleans of the rows, or nothing if no row has one.
abbrev pub boolean_bytes : List Bool → List Bool → List ℕ
boolean_bytes values has =
    if some_has has then 0 ∷ frame (unsigned_word 1) (filled (numbers_of values) has) else []

-- The chunk: the flags of the rows, the kind and the booleans.
abbrev pub boolean_chunk : List Bool → List Bool → List ℕ
boolean_chunk values has = flags has ++ boolean_bytes values has

-- Whether each row that is not set has this boolean.
abbrev pub all_unset : Bool → List Bool → List Bool → Bool
all_unset least [] has = true
all_unset least (value ∷ values) [] = true
all_unset least (value ∷ values) (true ∷ has) = all_unset least values has
all_unset least (value ∷ values) (false ∷ has) =
    cond least value (not value) && all_unset least values has

-- Whether each row that is not set has the least boolean of the others: false, if one of them is.
abbrev pub unset_least : List Bool → List Bool → Bool
unset_least values has = all_unset (all_have (set_values values has)) values has

-- What is wrong with numbers that were read: one is above 1, or else one that is not set is not the
-- least of the others.
abbrev pub numbers_fault : List Bool → List ℕ → Option ChunkFault
numbers_fault has numbers =
    if not (list_all (λ number. nat_lt number 2) numbers) then Some ValueOutOfRange
    else if not (unset_least (rows_of numbers) has) then Some NumberOfNoValue
    else None

-- What is wrong with the bytes behind the flags of these rows.
abbrev pub booleans_fault : List Bool → List ℕ → Option ChunkFault
booleans_fault has [] = if some_has has then Some WrongLength else None
booleans_fault has (kind ∷ bytes) =
    if not (some_has has) then Some WrongLength
    else if not (kind == 0) then Some NoSuchKind
    else first_fault (naturals_fault 1 (length has) bytes)
    (numbers_fault has (numbers_in 1 (length has) bytes))
