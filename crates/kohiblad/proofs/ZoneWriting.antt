-- The zones that are written so far.
use Rattle.std.proofs.Common.{◌≡◌, ℕ, ◌+◌, ◌<◌, ◌≤◌, List, [], ◌∷◌, ◌++◌, length, drop, map, refl}
use Rattle.std.proofs.Common.{sym, ap, ◌∙◌, arith, length-append, nat_eq}
use Rattle.std.specs.Prelude.{Option, None, slice_index_or, slice_set}
use Rattle.std.specs.Int.{div_ceil}
use Rattle.std.specs.declared.cmp.Ordering.{Ordering}
use Rattle.std.proofs.lemmas.List.{length-map, map-append}
use Rattle.typed_vector.specs.Cells.{cells}
use Rattle.typed_vector.specs.ZoneMap.{IsZone, are_set, block_at, cell_values}
use Rattle.typed_vector.specs.declared.zone_map.Zone.{Zone}
use Rattle.typed_vector.proofs.BlockLaws.{zones_more}
use Rattle.typed_vector.proofs.CellLaws.{length-cells}
use Rattle.kohiblad.specs.Zones.{AreStateZones, AreZonesCopied}
use Rattle.kohiblad.proofs.TakingLaws.{one_more_in}

-- The zone is that of a block, whatever else the rows have.
abbrev pub IsBlockZone : {A : Type 0} → (A → A → Ordering) → ℕ → List A → List ℕ → ℕ
    → Option (Zone A) → Type 0
IsBlockZone cmp size values states index zone =
    (rests : List (List ℕ)) → length rests ≡ length values
    → IsZone cmp (cell_values (block_at size (cells values (are_set nat_eq 1 states) rests) index))
    zone

pub record ZonesSoFar {A Z : Type 0} (cmp : A → A → Ordering) (written : Option (Zone A) → Z)
    (size : ℕ) (values : List A) (states : List ℕ) (number : ℕ) (out out_now : List Z)
    : Type 0 where
  pub zones : List (Option (Zone A))
  pub many : length zones ≡ number
  pub room : length out_now ≡ length out
  pub are : out_now ≡ map written zones ++ drop number out
  pub each : (k : ℕ) → k < number
      → IsBlockZone cmp size values states k (slice_index_or zones k None)

pub one_more_zone : {A Z : Type 0} (cmp : A → A → Ordering) (written : Option (Zone A) → Z)
    (size : ℕ) (values : List A) (states : List ℕ) (number : ℕ) (out out_now : List Z)
    (zone : Option (Zone A)) → ZonesSoFar cmp written size values states number out out_now
    → number < length out → IsBlockZone cmp size values states number zone
    → length (slice_set out_now number (written zone)) ≡ length out_now
    → ZonesSoFar cmp written size values states (number + 1) out
    (slice_set out_now number (written zone))
one_more_zone {Z = Z} cmp written size values states number out out_now zone so_far inside here
    kept =
    record {
      zones = so_far.zones ++ zone ∷ [];
      many = length-append so_far.zones (zone ∷ []) ∙ ap (λ n. n + 1) so_far.many;
      room = kept ∙ so_far.room;
      are =
          one_more_in (map written so_far.zones) out out_now number (written zone)
          (length-map so_far.zones written ∙ so_far.many) inside so_far.are
          ∙ ap (λ (xs : List Z). xs ++ drop (number + 1) out)
          (sym (map-append written so_far.zones (zone ∷ [])));
      each =
          zones_more (IsBlockZone cmp size values states) so_far.zones
          (so_far.zones ++ zone ∷ []) zone number refl so_far.many so_far.each here;
    }

-- All zones are written.
pub all_zones : {A Z : Type 0} (cmp : A → A → Ordering) (written : Option (Zone A) → Z) (size : ℕ)
    (values : List A) (states : List ℕ) (number : ℕ) (out out_now : List Z)
    → ZonesSoFar cmp written size values states number out out_now
    → length states ≡ length values → number ≡ div_ceil (length values) size
    → number ≤ length out → AreZonesCopied cmp written size values states out out_now
all_zones {Z = Z} cmp written size values states number out out_now so_far same all room =
    let long = length-map so_far.zones written ∙ so_far.many in
    let flags = length-map states (λ state. nat_eq state 1) ∙ same in
    let are : AreStateZones cmp size values states so_far.zones =
    λ rests many. record {
      count = so_far.many ∙ all
          ∙ ap (λ n. div_ceil n size)
          (sym (length-cells values (are_set nat_eq 1 states) rests flags many));
      each = λ k low. so_far.each k (omega (arith, low, so_far.many)) rests many;
    } in (
      so_far.zones,
      (
        are,
        (
          omega (arith, long, room),
          so_far.are ∙ ap (λ n. map written so_far.zones ++ drop n out) (sym long),
        ),
      ),
    )
