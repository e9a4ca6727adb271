use Rattle.std.proofs.Common.{◌≡◌, ◌<◌, ℕ, get_or, pos}
use Rattle.typed_chunk.specs.Frame.{value_at_height}
use Rattle.typed_chunk.proofs.frame.write_values.Given as goal

abbrev pub invariant-loop-index : goal.invariant-loop-index
invariant-loop-index l = (k : ℕ) → k < l.index
    → get_or l.values k (pos 0) ≡ value_at_height l.least (get_or l.codes k 0)
