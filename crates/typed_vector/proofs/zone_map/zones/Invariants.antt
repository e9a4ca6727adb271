-- The zones so far are those of the first blocks, and there is room for the others.
use Rattle.std.proofs.Common.{◌≡◌, ◌≤◌, ◌<◌, ℕ, length, vec_capacity}
use Rattle.std.specs.Prelude.{None, slice_index_or}
use Rattle.typed_vector.specs.ZoneMap.{IsZone, block_at, cell_values}
use Rattle.typed_vector.proofs.zone_map.zones.Given as goal

abbrev pub invariant-loop-index : goal.invariant-loop-index
invariant-loop-index g l = record {
  count : length l.zones.items ≡ l.index;
  room : l.count ≤ vec_capacity l.zones;
  each : (k : ℕ) → k < l.index → IsZone g.T.Ord.cmp
      (cell_values (block_at l.block_rows l.column k)) (slice_index_or l.zones.items k None);
}
