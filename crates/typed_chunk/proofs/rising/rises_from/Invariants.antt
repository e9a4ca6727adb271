use Rattle.std.proofs.Common.{◌≡◌, drop}
use Rattle.typed_chunk.specs.Rising.{rises_from}
use Rattle.typed_chunk.proofs.rising.rises_from.Given as goal

abbrev pub invariant-loop-value : goal.invariant-loop-value
invariant-loop-value l =
    rises_from l.before (drop l.value-index l.rest) ≡ rises_from l.first l.rest
