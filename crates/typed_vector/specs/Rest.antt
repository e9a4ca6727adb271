-- The other bytes of a column's rows, of which most have none.
use Rattle.std.specs.Prelude.{◌≡◌, ◌<◌, ◌+◌, ℕ, List, [], ◌∷◌, All, length, replicate, set}
use Rattle.std.specs.List.Sorted.{IsStrictlyIncreasing}
use Rattle.typed_vector.specs.Cells.{AreOffsets, rows}

-- The bytes of each of so many rows: none, but what is listed for a row at its index.
abbrev pub spread : ℕ → List ℕ → List (List ℕ) → List (List ℕ)
spread count [] listed = replicate count []
spread count (index ∷ indices) [] = replicate count []
spread count (index ∷ indices) (bytes ∷ listed) = set (spread count indices listed) index bytes

-- The indices of the rows that have bytes ascend, and there is one more offset than indices.
pub record IsRest (count : ℕ) (indices bytes offsets : List ℕ) : Type 0 where
  pub increasing : IsStrictlyIncreasing indices
  pub within : All (λ index. index < count) indices
  pub counted : length offsets ≡ length indices + 1
  pub ascending : AreOffsets (length bytes) offsets
  pub some : All (λ row. 0 < length row) (rows bytes offsets)
