-- The keys of an object of n pairs whose entry words are not all there, on any bytes.
use Rattle.std.specs.Prelude.{◌≡◌, ℕ, ◌<◌, List, None, Ok, Err}
use Rattle.jsonb_value.specs.declared.error.Error.{Error}
use Rattle.jsonb.specs.Parts.{key_of_size}

-- No key before this pair's has the size, and the entry word of each can be read.
abbrev pub NoneOfSize : ℕ → List ℕ → ℕ → ℕ → Type 0
NoneOfSize size bytes n pair = (k : ℕ) → k < pair → key_of_size size bytes n k ≡ Ok None

-- The first key that has the size, or whose entry word is cut off, cannot be read; this is the
-- error.
pub record IsFirstUnread (size : ℕ) (bytes : List ℕ) (n : ℕ) (e : Error) : Type 0 where
  pub pair : ℕ
  pub among : pair < n
  pub others : NoneOfSize size bytes n pair
  pub unread : key_of_size size bytes n pair ≡ Err e
