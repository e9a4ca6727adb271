use Rattle.std.proofs.Common.{◌≡◌, ◌<◌, ℕ, [], false, get_or, map, true}
use Rattle.typed_chunk.specs.Entries.{IsPlaceOf}
use Rattle.typed_chunk.proofs.entries.write_places.Given as goal
use Rattle.typed_vector.specs.Cells.{rows}

abbrev pub invariant-loop-index : goal.invariant-loop-index
invariant-loop-index l = record {
  set : (k : ℕ) → k < l.index → get_or l.has k false ≡ true
      → IsPlaceOf (map (λ entry. entry.now) l.entries)
      (get_or (rows l.texts l.offsets) k []) (get_or l.places k 0);
  unset : (k : ℕ) → k < l.index → get_or l.has k false ≡ false → get_or l.places k 0 ≡ 0;
}
