use Rattle.std.proofs.Common.{◌≡◌, drop}
use Rattle.typed_vector.specs.Cells.{rows}
use Rattle.typed_chunk.specs.TextReading.{are_blank}
use Rattle.typed_chunk.proofs.text_reading.are_blank.Given as goal

abbrev pub invariant-loop-index : goal.invariant-loop-index
invariant-loop-index l =
    are_blank (drop l.index (rows l.texts l.offsets)) (drop l.index l.has)
    ≡ are_blank (rows l.texts l.offsets) l.has
