-- The first rows of some runs were read.
use Rattle.kohiblad_shell.proofs.SortedRunSteps.{Starting}
use Rattle.kohiblad_shell.proofs.sorted_run.first_heads.Given as goal

abbrev pub invariant-loop-input : goal.invariant-loop-input
invariant-loop-input g l =
    Starting (g.R.Read.remaining) l.initial.runs l.runs l.heads.items l.input
