-- What the rows of a column have, and how it is stored.
use Rattle.std.specs.Prelude.{◌≡◌, ◌≤◌, ◌-◌, ℕ, Bool, true, false, List, [], ◌∷◌, length, take}
use Rattle.std.specs.Prelude.{drop}

-- A row has nothing, a value, or other bytes.
pub data Cell (A : Type 0) : Type 0 where
  absent : Cell A
  value : A → Cell A
  other : List ℕ → Cell A

-- What a row has that is not set: nothing, if it has no bytes.
abbrev pub rest_cell : {A : Type 0} → List ℕ → Cell A
rest_cell [] = absent
rest_cell (b ∷ bs) = other (b ∷ bs)

-- What a row has, by its value, whether it is set, and its bytes.
abbrev pub cell : {A : Type 0} → A → Bool → List ℕ → Cell A
cell item true rest = value item
cell item false rest = rest_cell rest

-- What the rows have.
abbrev pub cells : {A : Type 0} → List A → List Bool → List (List ℕ) → List (Cell A)
cells [] are_set rests = []
cells (item ∷ values) [] rests = []
cells (item ∷ values) (is_set ∷ are_set) [] = []
cells (item ∷ values) (is_set ∷ are_set) (rest ∷ rests) =
    cell item is_set rest ∷ cells values are_set rests

-- The rows that follow one another in the bytes: the first begins at `start`, and each other where
-- the one before it ends.
abbrev pub rows_from : List ℕ → ℕ → List ℕ → List (List ℕ)
rows_from bytes start [] = []
rows_from bytes start (end ∷ ends) =
    take (end - start) (drop start bytes) ∷ rows_from bytes end ends

-- The rows between these offsets, one fewer than there are offsets.
abbrev pub rows : List ℕ → List ℕ → List (List ℕ)
rows bytes [] = []
rows bytes (start ∷ ends) = rows_from bytes start ends

-- No end is below the one before it, and the last is the size.
abbrev pub AreEnds : ℕ → ℕ → List ℕ → Type 0
AreEnds size start [] = start ≡ size
AreEnds size start (end ∷ ends) = (start ≤ end) × AreEnds size end ends

-- The first offset is 0.
abbrev pub AreOffsets : ℕ → List ℕ → Type 0
AreOffsets size [] = ⊥
AreOffsets size (start ∷ ends) = (start ≡ 0) × AreEnds size start ends

-- There is one of each for each row.
pub record AreAlike {A : Type 0} (values : List A) (are_set : List Bool) (rests : List (List ℕ))
    : Type 0 where
  pub flags : length are_set ≡ length values
  pub counted : length rests ≡ length values
