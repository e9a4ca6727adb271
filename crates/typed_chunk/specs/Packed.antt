-- Codes of one width in bytes, one after the other, the lowest bits first.
use Rattle.std.specs.Prelude.{◌≡◌, ℕ, ◌*◌, ◌/◌, ◌%◌, ◌^◌, ◌<◌, ◌==◌, nat_lt, if◌then◌else◌, Bool}
use Rattle.std.specs.Prelude.{List, [], ◌∷◌}
use Rattle.std.specs.List.{list_any}
use Rattle.std.specs.Prelude.{All, Option, Some, None, length}
use Rattle.std.specs.Int.{div_ceil}
use Rattle.typed_chunk.specs.Digits.{digits, number}
use Rattle.typed_chunk.specs.declared.fault.ChunkFault.{ChunkFault}
use Rattle.typed_chunk.specs.declared.fault.ChunkFault.TheVariants.{BitsPastEnd, WrongLength}
use Rattle.typed_chunk.specs.declared.width.Width.{Width}
use Rattle.typed_chunk.specs.declared.width.Width.TheVariants as widths

-- How many bits a code of the width has.
abbrev pub bits : Width → ℕ
bits widths.Zero = 0
bits widths.One = 1
bits widths.Two = 2
bits widths.Four = 4
bits widths.Eight = 8
bits widths.Sixteen = 16
bits widths.ThirtyTwo = 32
bits widths.SixtyFour = 64

-- The least width in which a number below 2 ^ 128 fits.
unfoldable pub least_width : ℕ → ℕ
least_width n =
    if nat_lt n 1 then 0 else if nat_lt n 2 then 1 else if nat_lt n 4 then 2
    else if nat_lt n 16 then 4 else if nat_lt n 256 then 8 else if nat_lt n (2 ^ 16) then 16
    else if nat_lt n (2 ^ 32) then 32 else if nat_lt n (2 ^ 64) then 64 else 128

-- Whether codes of 64 bits may have so many bits.
unfoldable pub is_width : ℕ → Bool
is_width n = list_any (λ width. width == n)
    (0 ∷ 1 ∷ 2 ∷ 4 ∷ 8 ∷ 16 ∷ 32 ∷ 64 ∷ [])

-- How many bytes so many codes of so many bits take.
abbrev pub packed_len : ℕ → ℕ → ℕ
packed_len width count = div_ceil (count * width) 8

-- The bytes of codes: the number in base 2 ^ width whose digits they are, in base 256.
abbrev pub packed : ℕ → List ℕ → List ℕ
packed width codes = digits 256 (packed_len width (length codes)) (number (2 ^ width) codes)

-- Each code is below 2 ^ width.
abbrev pub FitWidth : ℕ → List ℕ → Type 0
FitWidth width codes = All (λ code. code < 2 ^ width) codes

-- The bytes are those of the codes, which all fit the width.
pub record ArePacked (width : ℕ) (codes bytes : List ℕ) : Type 0 where
  pub fit : FitWidth width codes
  pub same : bytes ≡ packed width codes

-- The code at an index of the bytes.
abbrev pub code_in : ℕ → List ℕ → ℕ → ℕ
code_in width bytes index = number 256 bytes / 2 ^ (width * index) % 2 ^ width

-- What is wrong with the bytes of so many codes: their number, or else a bit past the last code.
abbrev pub codes_fault : ℕ → ℕ → List ℕ → Option ChunkFault
codes_fault width count bytes =
    if length bytes == packed_len width count
    then (if nat_lt (number 256 bytes) (2 ^ (width * count)) then None else Some BitsPastEnd)
    else Some WrongLength
