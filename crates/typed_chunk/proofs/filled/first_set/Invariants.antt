use Rattle.std.proofs.Common.{◌≡◌, drop}
use Rattle.typed_chunk.proofs.filled.first_set.Given as goal
use Rattle.typed_vector.specs.ZoneMap.{set_values}

abbrev pub invariant-loop-index : goal.invariant-loop-index
invariant-loop-index l =
    set_values (drop l.index l.values) (drop l.index l.has) ≡ set_values l.values l.has
