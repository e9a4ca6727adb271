use Rattle.std.proofs.Common.{◌≡◌, ◌+◌, ◌≤◌, drop}
use Rattle.kohiblad.specs.Taking.{unfit_count}
use Rattle.kohiblad.proofs.taking.unfit_count.Given as goal

abbrev pub invariant-loop-state : goal.invariant-loop-state
invariant-loop-state l = record {
  few : l.count ≤ l.state-index;
  counted : l.count + unfit_count (drop l.state-index l.states) ≡ unfit_count l.states;
}
