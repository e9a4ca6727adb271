-- Zone maps of columns that were taken, as C receives them.
use Rattle.std.specs.Prelude.{◌≡◌, ◌≢◌, ◌<◌, ◌⊎◌, ℕ, List, Option, length, map, max, nat_eq}
use Rattle.std.specs.Int.{div_ceil}
use Rattle.std.specs.declared.cmp.Ordering.{Ordering}
use Rattle.jsonb_value.specs.declared.error.Error.TheVariants.{InvalidEOF}
use Rattle.typed_vector.specs.Cells.{cells}
use Rattle.typed_vector.specs.ZoneMap.{AreZones, are_set}
use Rattle.typed_vector.specs.declared.zone_map.Zone.{Zone}
use Rattle.kohiblad.specs.Status.{IsCopied, IsRefused, code, no_room}

-- The zones of the rows with these values and states: a row has its value if its state is 1, and
-- whatever else it has counts for nothing.
abbrev pub AreStateZones : {A : Type 0} → (A → A → Ordering) → ℕ → List A → List ℕ
    → List (Option (Zone A)) → Type 0
AreStateZones cmp size values states zones =
    (rests : List (List ℕ)) → length rests ≡ length values
    → AreZones cmp size (cells values (are_set nat_eq 1 states) rests) zones

-- The zones of the blocks of the rows are copied in their structs.
abbrev pub AreZonesCopied : {A Z : Type 0} → (A → A → Ordering) → (Option (Zone A) → Z) → ℕ
    → List A → List ℕ → List Z → List Z → Type 0
AreZonesCopied {A = A} cmp written size values states before after =
    (zones : List (Option (Zone A)))
    × (AreStateZones cmp size values states zones × IsCopied (map written zones) before after)

-- The zones of blocks of so many rows, where 0 counts as 1, are handed over, or the buffer is too
-- small; in any case the number of blocks is stored. There have to be as many states as values.
abbrev pub AreZonesWritten : {A Z : Type 0} → (A → A → Ordering) → (Option (Zone A) → Z) → ℕ
    → List A → List ℕ → List Z → List Z → ℕ → ℕ → Type 0
AreZonesWritten cmp written block_rows values states before after count status =
    ((length states ≢ length values) × IsRefused (code InvalidEOF) before after count status)
    ⊎ ((length states ≡ length values)
    × ((count ≡ div_ceil (length values) (max block_rows 1))
    × (((status ≡ 0)
    × AreZonesCopied cmp written (max block_rows 1) values states before after)
    ⊎ ((status ≡ no_room) × ((length before < count) × (after ≡ before))))))
