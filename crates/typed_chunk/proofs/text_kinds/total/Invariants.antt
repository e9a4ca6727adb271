use Rattle.std.proofs.Common.{◌≡◌, ◌≤◌, ◌*◌, ◌^◌, sum, take}
use Rattle.typed_chunk.proofs.text_kinds.total.Given as goal

abbrev pub invariant-loop-number : goal.invariant-loop-number
invariant-loop-number l = record {
  so_far : l.total ≡ sum (take l.number-index l.numbers);
  low : l.total ≤ l.number-index * 2 ^ 64;
}
