-- The first rows of some inputs were read.
use Rattle.kohiblad_shell.proofs.MergeSteps.{Starting}
use Rattle.kohiblad_shell.proofs.merge.first_heads.Given as goal

abbrev pub invariant-loop-input : goal.invariant-loop-input
invariant-loop-input g l =
    Starting (g.R.Read.remaining) (g.L.LineWorker.rule l.worker) l.form l.initial.readers l.readers
    l.heads.items l.input
