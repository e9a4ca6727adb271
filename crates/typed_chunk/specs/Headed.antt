-- Codes of the least width that holds them, behind a head.
use Rattle.std.specs.Prelude.{◌≡◌, ℕ, ◌+◌, ◌^◌, ◌==◌, nat_le, max, not, if◌then◌else◌, List, []}
use Rattle.std.specs.Prelude.{◌∷◌}
use Rattle.std.specs.Prelude.{◌++◌, Bool, IsTrue, Option, Some, None, drop, length, slice_index}
use Rattle.std.specs.List.{list_any}
use Rattle.typed_chunk.specs.Digits.{digits, number}
use Rattle.typed_chunk.specs.Packed.{codes_fault, is_width, least_width, packed}
use Rattle.typed_chunk.specs.declared.fault.ChunkFault.{ChunkFault}
use Rattle.typed_chunk.specs.declared.fault.ChunkFault.TheVariants.{NoSuchWidth, NotLeastValue}
use Rattle.typed_chunk.specs.declared.fault.ChunkFault.TheVariants.{NotLeastWidth, WrongLength}

-- The greatest of the codes, or 0.
abbrev pub greatest : List ℕ → ℕ
greatest [] = 0
greatest (code ∷ codes) = max code (greatest codes)

-- The least width that holds all codes.
abbrev pub width_of : List ℕ → ℕ
width_of codes = least_width (greatest codes)

-- The width, the head, and the codes.
abbrev pub headed : List ℕ → List ℕ → List ℕ
headed head codes = width_of codes ∷ (head ++ packed (width_of codes) codes)

-- The codes that the bytes behind a width and a head of so many bytes are read as.
abbrev pub codes_behind : ℕ → ℕ → List ℕ → List ℕ
codes_behind head count bytes =
    digits (2 ^ slice_index bytes 0) count (number 256 (drop (head + 1) bytes))

-- Whether a code is 0.
abbrev pub has_0 : List ℕ → Bool
has_0 codes = list_any (λ code. code == 0) codes

-- What is wrong with codes that were read with a width: it is not their least one, or no code is 0.
abbrev pub least_fault : ℕ → List ℕ → Option ChunkFault
least_fault width codes =
    if width == width_of codes
    then (if has_0 codes then None else Some NotLeastValue)
    else Some NotLeastWidth

-- The first fault of two.
abbrev pub first_fault : Option ChunkFault → Option ChunkFault → Option ChunkFault
first_fault None second = second
first_fault (Some fault) second = Some fault

-- What is wrong with the bytes of a width, a head of so many bytes, and so many codes: their number
-- or the width, or else the bytes of the codes, or else the codes.
abbrev pub headed_fault : ℕ → ℕ → List ℕ → Option ChunkFault
headed_fault head count bytes =
    if nat_le (length bytes) head then Some WrongLength
    else if not (is_width (slice_index bytes 0)) then Some NoSuchWidth
    else first_fault (codes_fault (slice_index bytes 0) count (drop (head + 1) bytes))
    (least_fault (slice_index bytes 0) (codes_behind head count bytes))

-- The bytes are those of the head and the codes, of which one is 0.
pub record IsHeaded (head codes bytes : List ℕ) : Type 0 where
  pub same : bytes ≡ headed head codes
  pub from_0 : IsTrue (has_0 codes)
