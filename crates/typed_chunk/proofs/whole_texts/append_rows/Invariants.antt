use Rattle.std.proofs.Common.{◌≡◌, ◌≤◌, ◌++◌, ℕ, get_or, length, take}
use Rattle.std.specs.List.{concat}
use Rattle.typed_vector.specs.Cells.{rows}
use Rattle.typed_chunk.specs.TextReading.{with_beginning}
use Rattle.typed_chunk.proofs.whole_texts.append_rows.Given as goal

abbrev pub invariant-loop-index : goal.invariant-loop-index
invariant-loop-index l = record {
  bytes : l.out.items
      ≡ l.fn.out.items
      ++ concat (take l.index (with_beginning l.start (rows l.tails l.offsets) l.has));
  written : (k : ℕ) → k ≤ l.index → get_or l.whole k 0
      ≡ length (concat (take k (with_beginning l.start (rows l.tails l.offsets) l.has)));
}
