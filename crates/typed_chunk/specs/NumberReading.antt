-- What bytes tell as a chunk of numbers.
use Rattle.std.specs.Prelude.{◌≡◌, ℕ, ℤ, ◌==◌, ◌&&◌, Bool, true, false, not, List, [], ◌∷◌}
use Rattle.std.specs.Prelude.{Option, Some, None, if◌then◌else◌, length, map, nat_lt}
use Rattle.std.specs.Int.{w64}
use Rattle.typed_chunk.specs.Flags.{all_have, some_has}
use Rattle.typed_chunk.specs.Frame.{IsFrame, frame_fault, frame_values, height, least_value}
use Rattle.typed_chunk.specs.Frame.{signed_word}
use Rattle.typed_chunk.specs.Headed.{first_fault}
use Rattle.typed_chunk.specs.NumberChunk.{filled, rises_shorter}
use Rattle.typed_chunk.specs.Places.{are_zeros}
use Rattle.typed_chunk.specs.Rising.{rising_fault, rising_values}
use Rattle.typed_chunk.specs.declared.fault.ChunkFault.{ChunkFault}
use Rattle.typed_chunk.specs.declared.fault.ChunkFault.TheVariants.{NoSuchKind, NotShortestKind}
use Rattle.typed_chunk.specs.declared.fault.ChunkFault.TheVariants.{NumberOfNoValue, WrongLength}
use Rattle.typed_vector.specs.ZoneMap.{set_values}

-- How far each value is above the least of those that are set.
abbrev pub heights_set : List ℤ → List Bool → List ℕ
heights_set values has = map (height (least_value (set_values values has))) values

-- What is wrong with values that were read as a frame: one that is not set is not the least of the
-- others, or else they take fewer bytes as rising ones.
abbrev pub packed_fault : List Bool → List ℤ → Option ChunkFault
packed_fault has values =
    if not (are_zeros (heights_set values has) has) then Some NumberOfNoValue
    else if rises_shorter (all_have has) values then Some NotShortestKind else None

-- What is wrong with values that were read as rising ones: these take no fewer bytes than a frame.
abbrev pub risen_fault : List ℤ → Option ChunkFault
risen_fault values = if rises_shorter true values then None else Some NotShortestKind

-- Whether all rows have a value, and there are two.
abbrev pub may_rise : List Bool → Bool
may_rise has = all_have has && nat_lt 1 (length has)

-- What is wrong with the bytes of a kind and of values behind it.
abbrev pub kind_fault : List Bool → ℕ → List ℕ → Option ChunkFault
kind_fault has kind bytes =
    if kind == 0 then first_fault (frame_fault w64 (length has) bytes)
    (packed_fault has (frame_values w64 (length has) bytes))
    else if not (kind == 1) then Some NoSuchKind
    else if not (may_rise has) then Some NoSuchKind
    else first_fault (rising_fault w64 (length has) bytes)
    (risen_fault (rising_values w64 (length has) bytes))

-- What is wrong with the bytes behind the flags of these rows.
abbrev pub values_fault : List Bool → List ℕ → Option ChunkFault
values_fault has [] = if some_has has then Some WrongLength else None
values_fault has (kind ∷ bytes) =
    if some_has has then kind_fault has kind bytes else Some WrongLength

-- The bytes are those of a frame of these values, of which each that is not set is the least of the
-- others, and which take no fewer bytes as rising ones.
pub record IsPacked (has : List Bool) (values : List ℤ) (bytes : List ℕ) : Type 0 where
  pub bytes_of : IsFrame (signed_word w64) values bytes
  pub unset : values ≡ filled values has
  pub shortest : rises_shorter (all_have has) values ≡ false
