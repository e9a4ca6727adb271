use Rattle.std.proofs.Common.{◌≡◌, fold, min, take}
use Rattle.typed_chunk.proofs.naturals.least_of.Given as goal

abbrev pub invariant-loop-number : goal.invariant-loop-number
invariant-loop-number l = l.least ≡ fold min l.first (take l.number-index l.rest)
