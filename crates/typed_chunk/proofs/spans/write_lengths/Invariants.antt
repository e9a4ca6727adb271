use Rattle.std.proofs.Common.{◌≡◌, ◌<◌, ℕ, [], get_or, length}
use Rattle.typed_vector.specs.Cells.{rows}
use Rattle.typed_chunk.specs.Texts.{tails}
use Rattle.typed_chunk.proofs.spans.write_lengths.Given as goal

abbrev pub invariant-loop-index : goal.invariant-loop-index
invariant-loop-index l = (k : ℕ) → k < l.index
    → get_or l.lengths k 0 ≡ length (get_or (tails l.size (rows l.texts l.offsets)) k [])
