-- The rows so far are written, each with its key.
use Rattle.kohiblad_shell.proofs.SortedRunLaws.{Written}
use Rattle.kohiblad_shell.proofs.sorted_run.write_run.Given as goal

abbrev pub invariant-loop-row : goal.invariant-loop-row
invariant-loop-row g l =
    Written (g.W.Write.contents l.initial.writer) (g.W.Write.contents l.writer) l.row-items
    l.row-index
