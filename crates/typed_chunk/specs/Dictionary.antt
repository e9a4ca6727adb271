-- Texts by a list of those that differ, and the place in it of each row's text.
use Rattle.std.specs.Prelude.{ℕ, ◌-◌, ◌^◌, ◌++◌, Bool, true, List, ◌∷◌, Option, length, replicate}
use Rattle.typed_chunk.specs.Digits.{digits, number}
use Rattle.typed_chunk.specs.Headed.{first_fault}
use Rattle.typed_chunk.specs.Packed.{codes_fault, least_width, packed}
use Rattle.typed_chunk.specs.Places.{places_fault}
use Rattle.typed_chunk.specs.Texts.{text_bytes}
use Rattle.typed_chunk.specs.declared.fault.ChunkFault.{ChunkFault}

-- The bytes of entries that are all texts.
abbrev pub entry_bytes : List (List ℕ) → List ℕ
entry_bytes entries = text_bytes entries (replicate (length entries) true)

-- The bytes of entries and codes: one less than there are entries, these, and the codes.
abbrev pub dictionary_bytes : List (List ℕ) → List ℕ → List ℕ
dictionary_bytes entries codes =
    (length entries - 1)
    ∷ (entry_bytes entries ++ packed (least_width (length entries - 1)) codes)

-- What is wrong with the bytes behind so many entries: they are none of codes for all rows, or else
-- the entries or the places.
abbrev pub dictionary_fault : List (List ℕ) → List Bool → List ℕ → Option ChunkFault
dictionary_fault entries has rest =
    first_fault (codes_fault (least_width (length entries - 1)) (length has) rest)
    (places_fault entries
    (digits (2 ^ least_width (length entries - 1)) (length has) (number 256 rest)) has)
