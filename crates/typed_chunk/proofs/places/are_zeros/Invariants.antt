use Rattle.std.proofs.Common.{◌≡◌, drop}
use Rattle.typed_chunk.specs.Places.{are_zeros}
use Rattle.typed_chunk.proofs.places.are_zeros.Given as goal

abbrev pub invariant-loop-index : goal.invariant-loop-index
invariant-loop-index l =
    are_zeros (drop l.index l.places) (drop l.index l.has) ≡ are_zeros l.places l.has
