use Rattle.std.proofs.Common.{◌≡◌, ◌<◌, ℕ, get_or, pos}
use Rattle.typed_chunk.specs.Frame.{height}
use Rattle.typed_chunk.proofs.frame.write_heights.Given as goal

abbrev pub invariant-loop-index : goal.invariant-loop-index
invariant-loop-index l = (k : ℕ) → k < l.index
    → get_or l.codes k 0 ≡ height l.least (get_or l.values k (pos 0))
