-- Numbers by the least of them and how far each is above it.
use Rattle.std.specs.Prelude.{◌≡◌, ◌<◌, ℕ, ℤ, pos, ◌+ℤ◌, ◌-ℤ◌, ◌+◌, ◌-◌, ◌*◌, ◌^◌, List, [], ◌∷◌}
use Rattle.std.specs.Prelude.{Option, Some, None, drop, fold, if◌then◌else◌, int_lt, length, map}
use Rattle.std.specs.Prelude.{min}
use Rattle.std.specs.Prelude.{unsigned_abs}
use Rattle.std.specs.Int.{Width, byte_len, cast_signed, cast_unsigned, int_min, to_be_bytes}
use Rattle.byteorder.specs.Endian.{big_bytes, big_number}
use Rattle.typed_chunk.specs.Headed.{codes_behind, first_fault, greatest, headed, headed_fault}
use Rattle.typed_chunk.specs.declared.fault.ChunkFault.{ChunkFault}
use Rattle.typed_chunk.specs.declared.fault.ChunkFault.TheVariants.{ValueOutOfRange}

-- The least of the values, or 0 of none.
abbrev pub least_value : List ℤ → ℤ
least_value [] = pos 0
least_value (value ∷ values) = fold int_min value values

-- How far a value is above another one.
abbrev pub height : ℤ → ℤ → ℕ
height least value = unsigned_abs (value -ℤ least)

-- How far each value is above the least one.
abbrev pub heights : List ℤ → List ℕ
heights values = map (height (least_value values)) values

-- The bytes of a number in two's complement, the highest first.
abbrev pub signed_word : Width → ℤ → List ℕ
signed_word w value = to_be_bytes w (cast_unsigned w value)

-- So many bytes of a number that is not negative, the highest first.
abbrev pub unsigned_word : ℕ → ℤ → List ℕ
unsigned_word size value = big_bytes size (unsigned_abs value)

-- The bytes of values: how far each is above the least one, behind the word of that one.
abbrev pub frame : (ℤ → List ℕ) → List ℤ → List ℕ
frame word values = headed (word (least_value values)) (heights values)

-- The bytes are those of the values, of which there is one.
pub record IsFrame (word : ℤ → List ℕ) (values : List ℤ) (bytes : List ℕ) : Type 0 where
  pub some : 0 < length values
  pub same : bytes ≡ frame word values

-- The value that is so far above the least one.
abbrev pub value_at_height : ℤ → ℕ → ℤ
value_at_height least code = least +ℤ pos code

-- What is wrong with codes above a least value: the greatest value has too many bits.
abbrev pub range_fault : ℕ → ℤ → List ℕ → Option ChunkFault
range_fault bits least codes =
    if int_lt (value_at_height least (greatest codes)) (pos (2 ^ bits))
    then None else Some ValueOutOfRange

-- The least value that bytes tell.
abbrev pub least_in : Width → List ℕ → ℤ
least_in w bytes = cast_signed w (big_number (byte_len w) (drop 1 bytes))

-- The values that bytes tell as a frame.
abbrev pub frame_values : Width → ℕ → List ℕ → List ℤ
frame_values w count bytes =
    map (value_at_height (least_in w bytes)) (codes_behind (byte_len w) count bytes)

-- What is wrong with the bytes of so many values: they are none of a least value and codes, or else
-- the greatest value has too many bits.
abbrev pub frame_fault : Width → ℕ → List ℕ → Option ChunkFault
frame_fault w count bytes =
    first_fault (headed_fault (byte_len w) count bytes)
    (range_fault (8 * byte_len w - 1) (least_in w bytes) (codes_behind (byte_len w) count bytes))

-- The least of numbers that are not negative, or 0 of none.
abbrev pub least_number : List ℕ → ℕ
least_number [] = 0
least_number (number ∷ numbers) = fold min number numbers

-- What is wrong with the bytes of so many numbers that are not negative, whose least one has so
-- many bytes: they are none of it and codes, or else the greatest number has more bytes.
abbrev pub naturals_fault : ℕ → ℕ → List ℕ → Option ChunkFault
naturals_fault size count bytes =
    first_fault (headed_fault size count bytes)
    (range_fault (8 * size) (pos (big_number size (drop 1 bytes))) (codes_behind size count bytes))

-- The numbers that bytes tell.
abbrev pub numbers_in : ℕ → ℕ → List ℕ → List ℕ
numbers_in size count bytes =
    map (λ code. big_number size (drop 1 bytes) + code) (codes_behind size count bytes)
