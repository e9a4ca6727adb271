use Rattle.std.proofs.Common.{◌≡◌, ◌<◌, ℕ, [], get_or, length}
use Rattle.typed_chunk.specs.TextChunkReading.{placed}
use Rattle.typed_chunk.proofs.text_chunk_reading.write_placed.Given as goal
use Rattle.typed_vector.specs.Cells.{rows}

abbrev pub invariant-loop-index : goal.invariant-loop-index
invariant-loop-index l = (k : ℕ) → k < l.index → get_or l.lengths k 0
    ≡ length (get_or (placed (rows l.entries l.offsets) l.places l.has) k [])
