-- The first rows in the order of their keys.
use Rattle.std.specs.Prelude.{◌≡◌, ◌<◌, ℕ, List, [], ◌∷◌, Vec, ⊤, cond, fold, take}
use Rattle.std.specs.declared.alloc.Global.{Global}
use Rattle.std.specs.Cmp.Lexicographic.{slice_cmp}
use Rattle.std.specs.Ordering.{is_lt, nat_cmp}
use Rattle.kept_rows.specs.FirstRows.{Row}

-- At most so many rows.
pub record Top : Type 0 where
  pub limit : ℕ
  pub rows : List Row

-- A row as it is stored: its key and its number, and its bytes.
abbrev pub Stored : Type 0
Stored = (Vec ℕ Global × ℕ) × Vec ℕ Global

abbrev pub kept_row : Stored → Row
kept_row stored = record { key = stored.0.0.items; line = stored.1.items }

-- Each stored row has a number below this one.
abbrev pub AreNumberedBelow : ℕ → List Stored → Type 0
AreNumberedBelow next [] = ⊤
AreNumberedBelow next (s ∷ stored) = (s.0.1 < next) × AreNumberedBelow next stored

-- Rows in the order of their keys with one more, which comes after those of its key.
abbrev pub with_row : List Row → Row → List Row
with_row [] r = r ∷ []
with_row (s ∷ rows) r =
    cond (is_lt (slice_cmp nat_cmp r.key s.key)) (r ∷ s ∷ rows) (s ∷ with_row rows r)

-- Rows in the order of their keys; those of one key keep their order.
abbrev pub sorted_rows : List Row → List Row
sorted_rows rows = fold with_row [] rows

-- The rows with one more, of which the first so many are kept.
abbrev pub with_added : Top → Row → Top
with_added top r = record { limit = top.limit; rows = take top.limit (with_row top.rows r) }

-- Of all rows, added to none one after another, the first so many in the order of their keys are
-- kept.
abbrev pub AreFirstSorted : Type 0
AreFirstSorted = (limit : ℕ) (rows : List Row)
    → fold with_added (record { limit = limit; rows = [] }) rows
    ≡ record { limit = limit; rows = take limit (sorted_rows rows) }
