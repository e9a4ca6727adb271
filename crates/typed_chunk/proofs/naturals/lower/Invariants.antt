use Rattle.std.proofs.Common.{◌≡◌, ◌-◌, ◌<◌, ◌≤◌, ℕ, get_or}
use Rattle.typed_chunk.proofs.naturals.lower.Given as goal

abbrev pub invariant-loop-number : goal.invariant-loop-number
invariant-loop-number l = record {
  written : (k : ℕ) → k < l.number-index → get_or l.numbers k 0 ≡ get_or l.fn.numbers k 0 - l.least;
  others : (k : ℕ) → l.number-index ≤ k → get_or l.numbers k 0 ≡ get_or l.fn.numbers k 0;
}
