-- The sums so far have the numbers of the aggregates before the index.
use Rattle.std.proofs.Common.{◌≡◌, take}
use Rattle.kohiblad_shell.specs.Totals.{with_amounts}
use Rattle.kohiblad_shell.proofs.groups.add_amounts.Given as goal

abbrev pub invariant-loop-index : goal.invariant-loop-index
invariant-loop-index l = l.totals ≡ with_amounts l.initial.totals (take l.index l.amounts)
