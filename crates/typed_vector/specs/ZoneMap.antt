-- Zone maps: the least and the greatest value of each block of rows.
use Rattle.std.specs.Prelude.{◌≡◌, ◌≢◌, ◌<◌, ◌*◌, ◌&&◌, ℕ, Bool, true, false, not, List, [], ◌∷◌}
use Rattle.std.specs.Prelude.{All, Contains, Option, Some, None, length, map, take, drop}
use Rattle.std.specs.Prelude.{slice_index_or}
use Rattle.std.specs.Int.{div_ceil}
use Rattle.std.specs.Ordering.{is_gt, is_lt}
use Rattle.std.specs.declared.cmp.Ordering.{Ordering}
use Rattle.std.specs.declared.cmp.Ordering.TheVariants.{Greater}
use Rattle.typed_vector.specs.Cells.{Cell, absent, value, other}
use Rattle.typed_vector.specs.declared.zone_map.Zone.{Zone}

-- The values of the rows that have one.
abbrev pub cell_values : {A : Type 0} → List (Cell A) → List A
cell_values [] = []
cell_values (absent ∷ cells) = cell_values cells
cell_values (value item ∷ cells) = item ∷ cell_values cells
cell_values (other bytes ∷ cells) = cell_values cells

-- The values that are set.
abbrev pub set_values : {A : Type 0} → List A → List Bool → List A
set_values [] are_set = []
set_values (item ∷ items) [] = []
set_values (item ∷ items) (true ∷ are_set) = item ∷ set_values items are_set
set_values (item ∷ items) (false ∷ are_set) = set_values items are_set

-- Which of the flags are this one.
abbrev pub are_set : {F : Type 0} → (F → F → Bool) → F → List F → List Bool
are_set eq set flags = map (λ flag. eq flag set) flags

-- The value is below the lower limit.
abbrev pub is_below : {A : Type 0} → (A → A → Ordering) → A → A → Bool
is_below cmp low item = is_lt (cmp item low)

-- The value is above the upper limit.
abbrev pub is_above : {A : Type 0} → (A → A → Ordering) → A → A → Bool
is_above cmp high item = is_gt (cmp item high)

-- The value is neither below the lower nor above the upper limit.
abbrev pub lies_within : {A : Type 0} → (A → A → Ordering) → A → A → A → Bool
lies_within cmp low high item = not (is_below cmp low item) && not (is_above cmp high item)

-- The zone has the least and the greatest of the values.
pub record IsSpan {A : Type 0} (cmp : A → A → Ordering) (items : List A) (zone : Zone A)
    : Type 0 where
  pub least : Contains items zone.least
  pub greatest : Contains items zone.greatest
  pub above : All (λ item. cmp zone.least item ≢ Greater) items
  pub below : All (λ item. cmp item zone.greatest ≢ Greater) items

-- There is a zone exactly if there are values.
abbrev pub IsZone : {A : Type 0} → (A → A → Ordering) → List A → Option (Zone A) → Type 0
IsZone cmp items None = items ≡ []
IsZone cmp items (Some zone) = IsSpan cmp items zone

-- The block of this index, where each has so many rows; the last may have fewer.
abbrev pub block_at : {A : Type 0} → ℕ → List A → ℕ → List A
block_at size rows index = take size (drop (index * size) rows)

-- The zones are those of the blocks of the rows, each of the values of its block.
pub record AreZones {A : Type 0} (cmp : A → A → Ordering) (size : ℕ) (rows : List (Cell A))
    (zones : List (Option (Zone A))) : Type 0 where
  pub count : length zones ≡ div_ceil (length rows) size
  pub each : (index : ℕ) → index < length zones
      → IsZone cmp (cell_values (block_at size rows index)) (slice_index_or zones index None)
