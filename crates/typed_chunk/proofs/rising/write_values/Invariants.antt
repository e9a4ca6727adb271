use Rattle.std.proofs.Common.{◌≡◌, ◌+◌, ◌<◌, ◌∷◌, ℕ, get_or, pos}
use Rattle.typed_chunk.specs.Rising.{values_from}
use Rattle.typed_chunk.proofs.rising.write_values.Given as goal

abbrev pub invariant-loop-index : goal.invariant-loop-index
invariant-loop-index l = (k : ℕ) → k < l.index + 1
    → get_or l.values k (pos 0) ≡ get_or (l.first ∷ values_from l.first l.steps) k (pos 0)
