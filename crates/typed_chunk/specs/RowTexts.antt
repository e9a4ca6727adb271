-- The texts of a column as its chunk takes them.
use Rattle.std.specs.Prelude.{◌≡◌, ◌<◌, ◌^◌, ◌+◌, ℕ, List, length}
use Rattle.typed_chunk.specs.Texts.{AreSpans}

-- The texts of so many rows follow one another between the offsets, of which there is one more than
-- rows; rows and bytes are few enough for a chunk.
pub record AreTexts (size : ℕ) (offsets : List ℕ) (count : ℕ) : Type 0 where
  pub few : count < 2 ^ 57
  pub spans : AreSpans size offsets
  pub many : length offsets ≡ count + 1
  pub short : size < 2 ^ 32
