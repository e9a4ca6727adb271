use Rattle.std.proofs.Common.{◌≡◌, fold, take}
use Rattle.std.specs.Int.{int_min}
use Rattle.typed_chunk.proofs.frame.least_of.Given as goal

abbrev pub invariant-loop-value : goal.invariant-loop-value
invariant-loop-value l = l.least ≡ fold int_min l.first (take l.value-index l.rest)
