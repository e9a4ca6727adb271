use Rattle.std.proofs.Common.{◌≡◌, ◌<◌, ◌≤◌, ℕ, false, get_or, pos}
use Rattle.std.specs.Prelude.{if◌then◌else◌}
use Rattle.typed_chunk.proofs.filled.write_unset.Given as goal

abbrev pub invariant-loop-index : goal.invariant-loop-index
invariant-loop-index l = record {
  written : (k : ℕ) → k < l.index → get_or l.values k (pos 0)
      ≡ (if get_or l.has k false then get_or l.fn.values k (pos 0) else l.least);
  others : (k : ℕ) → l.index ≤ k → get_or l.values k (pos 0) ≡ get_or l.fn.values k (pos 0);
}
