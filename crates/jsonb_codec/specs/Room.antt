-- Appending to a buffer with reserved capacity.
use Rattle.std.specs.Prelude.{◌≡◌, ◌≤◌, ◌+◌, ℕ, List, ◌++◌, length, vec_capacity}
use Rattle.std.specs.Global.{Vec}

-- The buffer has the capacity to append these bytes.
abbrev pub HasRoom : Vec ℕ → List ℕ → Type 0
HasRoom v bytes = length v.items + length bytes ≤ vec_capacity v

-- The bytes were appended, and the capacity did not shrink.
pub record AppendsBytes (old new : Vec ℕ) (bytes : List ℕ) : Type 0 where
  pub items : new.items ≡ old.items ++ bytes
  pub capacity : vec_capacity old ≤ vec_capacity new

-- The bytes have these words at `index`.
pub record HasWordsAt (index : ℕ) (words bytes : List ℕ) : Type 0 where
  pub front : List ℕ
  pub rest : List ℕ
  pub parts : bytes ≡ front ++ (words ++ rest)
  pub is_at : length front ≡ index
