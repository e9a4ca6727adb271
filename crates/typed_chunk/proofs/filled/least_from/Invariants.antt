use Rattle.std.proofs.Common.{◌≡◌, drop, fold}
use Rattle.std.specs.Int.{int_min}
use Rattle.typed_chunk.proofs.filled.least_from.Given as goal
use Rattle.typed_vector.specs.ZoneMap.{set_values}

abbrev pub invariant-loop-index : goal.invariant-loop-index
invariant-loop-index l =
    fold int_min l.least (set_values (drop l.index l.values) (drop l.index l.has))
    ≡ fold int_min l.first (set_values l.values l.has)
