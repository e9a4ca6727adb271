use Rattle.std.proofs.Common.{◌≡◌, ◌+◌, ◌<◌, ℕ, get_or, pos}
use Rattle.typed_chunk.specs.Frame.{height}
use Rattle.typed_chunk.proofs.rising.write_steps.Given as goal

abbrev pub invariant-loop-index : goal.invariant-loop-index
invariant-loop-index l = (k : ℕ) → k < l.index
    → get_or l.steps k 0 ≡ height (get_or l.values k (pos 0)) (get_or l.values (k + 1) (pos 0))
