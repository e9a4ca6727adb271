-- Which rows of a block have a value.
use Rattle.std.specs.Prelude.{ℕ, Bool, List, ◌∷◌, Option, Some, None, []}
use Rattle.std.specs.Prelude.{cond, if◌then◌else◌, length, map, nat_le, nat_lt, not, take}
use Rattle.std.specs.Prelude.{◌==◌, ◌||◌}
use Rattle.std.specs.List.{list_all, list_any}
use Rattle.typed_chunk.specs.Digits.{digits, number}
use Rattle.typed_chunk.specs.Headed.{first_fault}
use Rattle.typed_chunk.specs.Packed.{codes_fault, packed, packed_len}
use Rattle.typed_chunk.specs.declared.fault.ChunkFault.{ChunkFault}
use Rattle.typed_chunk.specs.declared.fault.ChunkFault.TheVariants.{NoSuchFlags, NotSomeFlags}
use Rattle.typed_chunk.specs.declared.fault.ChunkFault.TheVariants.{WrongLength}

-- Whether a row has a value, and whether all have one.
abbrev pub some_has : List Bool → Bool
some_has has = list_any (λ flag. flag) has

abbrev pub all_have : List Bool → Bool
all_have has = list_all (λ flag. flag) has

-- A bit for each row: 1 if it has a value.
abbrev pub flag_bits : List Bool → List ℕ
flag_bits has = map (λ flag. cond flag 1 0) has

-- The bytes of flags: 0 if no row has a value, 1 if all have one, else 2 and the bits.
abbrev pub flags : List Bool → List ℕ
flags has =
    if not (some_has has) then 0 ∷ []
    else if all_have has then 1 ∷ []
    else 2 ∷ packed 1 (flag_bits has)

-- The bits of so many rows that bytes tell, which begin with them.
abbrev pub bits_in : ℕ → List ℕ → List ℕ
bits_in count bytes = digits 2 count (number 256 (take (packed_len 1 count) bytes))

-- The rows that have a value, by their bits.
abbrev pub rows_of : List ℕ → List Bool
rows_of codes = map (λ code. code == 1) codes

-- What is wrong with rows that were read one by one: none or all have a value.
abbrev pub some_fault : List Bool → Option ChunkFault
some_fault has = if not (some_has has) || all_have has then Some NotSomeFlags else None

-- What is wrong with bytes that begin with bits of so many rows: there are fewer, or else a bit
-- past the last is set, or else none or all rows have a value.
abbrev pub bits_fault : ℕ → List ℕ → Option ChunkFault
bits_fault count bytes =
    if nat_lt (length bytes) (packed_len 1 count) then Some WrongLength
    else first_fault (codes_fault 1 count (take (packed_len 1 count) bytes))
    (some_fault (rows_of (bits_in count bytes)))

-- What is wrong with bytes that begin with the flags of so many rows.
abbrev pub flags_fault : ℕ → List ℕ → Option ChunkFault
flags_fault count [] = Some WrongLength
flags_fault count (first ∷ bytes) =
    if nat_le first 1 then None
    else if first == 2 then bits_fault count bytes
    else Some NoSuchFlags
