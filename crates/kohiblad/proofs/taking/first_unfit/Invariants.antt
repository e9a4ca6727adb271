use Rattle.std.proofs.Common.{◌≡◌, ◌+◌, drop}
use Rattle.kohiblad.specs.Taking.{first_unfit}
use Rattle.kohiblad.proofs.taking.first_unfit.Given as goal

abbrev pub invariant-loop-state : goal.invariant-loop-state
invariant-loop-state l = record {
  at : l.number ≡ l.state-index;
  passed : l.number + first_unfit (drop l.state-index l.states) ≡ first_unfit l.states;
}
