use Rattle.std.proofs.Common.{◌≡◌, ◌<◌, ℕ, false, get_or, length, take}
use Rattle.typed_vector.specs.ZoneMap.{set_values}
use Rattle.typed_chunk.specs.Places.{is_used}
use Rattle.typed_chunk.proofs.places.all_used.Given as goal

abbrev pub invariant-loop-index : goal.invariant-loop-index
invariant-loop-index l = (k : ℕ) → k < length l.marks
    → get_or l.marks k false ≡ is_used (set_values (take l.index l.places) (take l.index l.has)) k
