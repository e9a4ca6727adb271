use Rattle.std.proofs.Common.{◌≡◌, ◌<◌, ℕ, cond, get_or, pos}
use Rattle.typed_chunk.specs.BooleanChunk.{numbers_of}
use Rattle.typed_chunk.specs.NumberChunk.{with_unset}
use Rattle.typed_chunk.proofs.boolean_chunk.write_numbers.Given as goal

abbrev pub invariant-loop-index : goal.invariant-loop-index
invariant-loop-index l = record {
  written : (k : ℕ) → k < l.index → pos (get_or l.codes k 0)
      ≡ get_or (with_unset (pos (cond l.least 1 0)) (numbers_of l.values) l.has) k (pos 0);
  low : (k : ℕ) → k < l.index → get_or l.codes k 0 < 2;
}
