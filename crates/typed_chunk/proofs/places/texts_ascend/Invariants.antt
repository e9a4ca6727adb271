use Rattle.std.proofs.Common.{◌≡◌, ◌-◌, drop}
use Rattle.typed_vector.specs.Cells.{rows}
use Rattle.typed_chunk.specs.Places.{texts_ascend}
use Rattle.typed_chunk.proofs.places.texts_ascend.Given as goal

abbrev pub invariant-loop-index : goal.invariant-loop-index
invariant-loop-index l =
    texts_ascend (drop (l.index - 2) (rows l.texts l.offsets))
    ≡ texts_ascend (rows l.texts l.offsets)
