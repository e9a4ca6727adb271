-- The run with the first row of those so far.
use Rattle.kohiblad_shell.specs.SortedRuns.{IsFirstInput}
use Rattle.kohiblad_shell.proofs.sorted_run.first_input.Given as goal

abbrev pub invariant-loop-input : goal.invariant-loop-input
invariant-loop-input l = IsFirstInput l.heads l.is_reversed l.input l.first
