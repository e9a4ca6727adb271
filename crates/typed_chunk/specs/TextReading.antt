-- Texts as their bytes tell them.
use Rattle.std.specs.Prelude.{◌≡◌, ◌≤◌, ℕ, ◌+◌, ◌-◌, ◌++◌, ◌==◌, Bool, true, false, not, List, []}
use Rattle.std.specs.Prelude.{◌∷◌}
use Rattle.std.specs.Prelude.{Option, Some, None, drop, if◌then◌else◌, length, nat_le, nat_lt}
use Rattle.std.specs.Prelude.{slice_index, sum, take}
use Rattle.typed_chunk.specs.Frame.{naturals_fault, numbers_in}
use Rattle.typed_chunk.specs.Headed.{first_fault}
use Rattle.typed_chunk.specs.Packed.{packed_len}
use Rattle.typed_chunk.specs.Texts.{common}
use Rattle.typed_chunk.specs.declared.fault.ChunkFault.{ChunkFault}
use Rattle.typed_chunk.specs.declared.fault.ChunkFault.TheVariants.{NotLongestBeginning}
use Rattle.typed_chunk.specs.declared.fault.ChunkFault.TheVariants.{TextOfNoValue, WrongLength}
use Rattle.typed_vector.specs.Cells.{rows}
use Rattle.typed_vector.specs.ZoneMap.{set_values}

-- How many bytes a frame has that begins so, with so many numbers, whose least has so many bytes.
abbrev pub frame_len : ℕ → ℕ → List ℕ → ℕ
frame_len size count bytes = size + 1 + packed_len (slice_index bytes 0) count

-- The frame that bytes begin with, or all of them if there are fewer, and what is behind it.
abbrev pub frame_before : ℕ → ℕ → List ℕ → List ℕ
frame_before size count bytes = take (frame_len size count bytes) bytes

abbrev pub behind_frame : ℕ → ℕ → List ℕ → List ℕ
behind_frame size count bytes = drop (frame_len size count bytes) bytes

-- Where each text ends if they have these lengths and the first one begins there.
abbrev pub text_ends : ℕ → List ℕ → List ℕ
text_ends start [] = []
text_ends start (size ∷ sizes) = (start + size) ∷ text_ends (start + size) sizes

-- The offsets of texts of these lengths.
abbrev pub offsets_of : List ℕ → List ℕ
offsets_of lengths = 0 ∷ text_ends 0 lengths

-- Each row that has no text has no bytes either.
abbrev pub are_blank : List (List ℕ) → List Bool → Bool
are_blank [] has = true
are_blank (text ∷ texts) [] = true
are_blank (text ∷ texts) (true ∷ has) = are_blank texts has
are_blank ([] ∷ texts) (false ∷ has) = are_blank texts has
are_blank ((byte ∷ text) ∷ texts) (false ∷ has) = false

-- The texts that begin so and go on so; a row that has none is empty.
abbrev pub with_beginning : List ℕ → List (List ℕ) → List Bool → List (List ℕ)
with_beginning start [] has = []
with_beginning start (tail ∷ tails) [] = []
with_beginning start (tail ∷ tails) (true ∷ has) =
    (start ++ tail) ∷ with_beginning start tails has
with_beginning start (tail ∷ tails) (false ∷ has) = [] ∷ with_beginning start tails has

-- What is wrong with what is behind a beginning of so many bytes: a row that has no text has bytes,
-- or else all texts go on alike, and so could their beginning.
abbrev pub rows_fault : ℕ → List (List ℕ) → List Bool → Option ChunkFault
rows_fault size tails has =
    if not (are_blank tails has) then Some TextOfNoValue
    else if length (common (255 - size) (set_values tails has)) == 0 then None
    else Some NotLongestBeginning

-- What is wrong with lengths: their sum is above the most.
abbrev pub sum_fault : ℕ → List ℕ → Option ChunkFault
sum_fault most lengths = if nat_le (sum lengths) most then None else Some WrongLength

-- What is wrong with bytes that begin with tails of these lengths: there are fewer, or else the
-- tails.
abbrev pub tails_fault : ℕ → List Bool → List ℕ → List ℕ → Option ChunkFault
tails_fault size has lengths bytes =
    first_fault (sum_fault (length bytes) lengths)
    (rows_fault size (rows (take (sum lengths) bytes) (offsets_of lengths)) has)

-- What is wrong with bytes behind a beginning of so many bytes: the lengths, or else the tails.
abbrev pub begun_fault : ℕ → List Bool → List ℕ → Option ChunkFault
begun_fault size has bytes =
    first_fault (naturals_fault 4 (length has) (frame_before 4 (length has) bytes))
    (tails_fault size has (numbers_in 4 (length has) (frame_before 4 (length has) bytes))
    (behind_frame 4 (length has) bytes))

-- What is wrong with bytes that begin with the texts of rows: there are fewer than those of the
-- beginning, or else what is behind it.
abbrev pub texts_fault : List Bool → List ℕ → Option ChunkFault
texts_fault has [] = Some WrongLength
texts_fault has (size ∷ bytes) =
    if nat_lt (length bytes) size then Some WrongLength
    else begun_fault size has (drop size bytes)

-- Texts begin so, with at most 255 bytes, and behind that they are as they are written.
pub record AreBegun (start : List ℕ) (tails : List (List ℕ)) (has : List Bool) : Type 0 where
  pub low : length start ≤ 255
  pub form : rows_fault (length start) tails has ≡ None
