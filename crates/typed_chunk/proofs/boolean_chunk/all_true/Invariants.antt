use Rattle.std.proofs.Common.{◌≡◌, drop}
use Rattle.typed_chunk.specs.Flags.{all_have}
use Rattle.typed_chunk.proofs.boolean_chunk.all_true.Given as goal
use Rattle.typed_vector.specs.ZoneMap.{set_values}

abbrev pub invariant-loop-index : goal.invariant-loop-index
invariant-loop-index l = all_have (set_values (drop l.index l.values) (drop l.index l.has))
    ≡ all_have (set_values l.values l.has)
