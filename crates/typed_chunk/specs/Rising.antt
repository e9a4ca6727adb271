-- Values of which none is below the one before it, by the first and how far each rises.
use Rattle.std.specs.Prelude.{◌≡◌, ◌<◌, ℕ, ℤ, pos, ◌+ℤ◌, ◌-◌, ◌*◌, ◌^◌, ◌++◌, List, [], ◌∷◌}
use Rattle.std.specs.Prelude.{Bool, true, ◌&&◌, IsTrue, Option, Some, None, drop, if◌then◌else◌}
use Rattle.std.specs.Prelude.{int_le, int_lt, length, map, nat_lt, sum}
use Rattle.std.specs.Int.{Width, byte_len, cast_signed}
use Rattle.byteorder.specs.Endian.{big_number}
use Rattle.typed_chunk.specs.Frame.{frame, height, naturals_fault, numbers_in, signed_word}
use Rattle.typed_chunk.specs.Frame.{unsigned_word}
use Rattle.typed_chunk.specs.Headed.{first_fault}
use Rattle.typed_chunk.specs.declared.fault.ChunkFault.{ChunkFault}
use Rattle.typed_chunk.specs.declared.fault.ChunkFault.TheVariants.{ValueOutOfRange, WrongLength}

-- Whether no value is below the one before it, where one was before them.
abbrev pub rises_from : ℤ → List ℤ → Bool
rises_from before [] = true
rises_from before (value ∷ values) = int_le before value && rises_from value values

-- Whether no value is below the one before it.
abbrev pub rises : List ℤ → Bool
rises [] = true
rises (value ∷ values) = rises_from value values

-- How far each value is above the one before it, where one was before them.
abbrev pub steps_from : ℤ → List ℤ → List ℕ
steps_from before [] = []
steps_from before (value ∷ values) = height before value ∷ steps_from value values

-- How far each value but the first is above the one before it.
abbrev pub steps_of : List ℤ → List ℕ
steps_of [] = []
steps_of (value ∷ values) = steps_from value values

-- The bytes of values: the first, and how far each of the others is above the one before it.
abbrev pub rising : Width → List ℤ → List ℕ
rising w [] = []
rising w (value ∷ values) =
    signed_word w value ++ frame (unsigned_word (byte_len w)) (map pos (steps_from value values))

-- The bytes are those of the values, of which there are two and none is below the one before it.
pub record IsRising (w : Width) (values : List ℤ) (bytes : List ℕ) : Type 0 where
  pub two : 1 < length values
  pub up : IsTrue (rises values)
  pub same : bytes ≡ rising w values

-- The values that rise by these steps.
abbrev pub values_from : ℤ → List ℕ → List ℤ
values_from before [] = []
values_from before (step ∷ steps) =
    (before +ℤ pos step) ∷ values_from (before +ℤ pos step) steps

-- What is wrong with steps from a first value: the last value has too many bits.
abbrev pub last_fault : ℕ → ℤ → List ℕ → Option ChunkFault
last_fault bits first steps =
    if int_lt (first +ℤ pos (sum steps)) (pos (2 ^ bits)) then None else Some ValueOutOfRange

-- What is wrong with the bytes of so many values: there are fewer than those of the first, or the
-- others are none of steps, or else the last value has too many bits.
abbrev pub rising_fault : Width → ℕ → List ℕ → Option ChunkFault
rising_fault w count bytes =
    if nat_lt (length bytes) (byte_len w) then Some WrongLength
    else first_fault (naturals_fault (byte_len w) (count - 1) (drop (byte_len w) bytes))
    (last_fault (8 * byte_len w - 1) (cast_signed w (big_number (byte_len w) bytes))
    (numbers_in (byte_len w) (count - 1) (drop (byte_len w) bytes)))

-- The first value that bytes tell as rising ones, and all of them.
abbrev pub rising_first : Width → List ℕ → ℤ
rising_first w bytes = cast_signed w (big_number (byte_len w) bytes)

abbrev pub rising_values : Width → ℕ → List ℕ → List ℤ
rising_values w count bytes =
    rising_first w bytes ∷ values_from (rising_first w bytes)
    (numbers_in (byte_len w) (count - 1) (drop (byte_len w) bytes))
