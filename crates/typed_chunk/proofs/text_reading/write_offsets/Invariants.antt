use Rattle.std.proofs.Common.{◌≡◌, ◌≤◌, ℕ, get_or, sum, take}
use Rattle.typed_chunk.proofs.text_reading.write_offsets.Given as goal

abbrev pub invariant-loop-index : goal.invariant-loop-index
invariant-loop-index l = record {
  end : l.end ≡ sum (take l.index l.lengths);
  low : l.end ≤ l.most;
  written : (k : ℕ) → k ≤ l.index → get_or l.offsets k 0 ≡ sum (take k l.lengths);
}
