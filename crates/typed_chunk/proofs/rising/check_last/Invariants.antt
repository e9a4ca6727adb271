use Rattle.std.proofs.Common.{◌≡◌, ◌^◌, ◌*◌, ◌≤◌, sum, take}
use Rattle.typed_chunk.proofs.rising.check_last.Given as goal

abbrev pub invariant-loop-step : goal.invariant-loop-step
invariant-loop-step l = record {
  so_far : l.sum ≡ sum (take l.step-index l.steps);
  low : l.sum ≤ 2 ^ 64 * l.step-index;
}
