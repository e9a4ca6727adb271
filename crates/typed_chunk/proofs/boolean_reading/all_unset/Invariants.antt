use Rattle.std.proofs.Common.{◌≡◌, drop}
use Rattle.typed_chunk.specs.BooleanChunk.{all_unset}
use Rattle.typed_chunk.proofs.boolean_reading.all_unset.Given as goal

abbrev pub invariant-loop-index : goal.invariant-loop-index
invariant-loop-index l = all_unset l.least (drop l.index l.values) (drop l.index l.has)
    ≡ all_unset l.least l.values l.has
