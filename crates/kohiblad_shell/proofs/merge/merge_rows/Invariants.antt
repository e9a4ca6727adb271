-- The rows so far are merged.
use Rattle.kohiblad_shell.proofs.MergeSteps.{Going}
use Rattle.kohiblad_shell.proofs.merge.merge_rows.Given as goal

abbrev pub invariant-merging : goal.invariant-merging
invariant-merging g l =
    Going (g.R.Read.remaining) (g.L.LineWorker.rule l.worker) l.form l.fn.readers l.readers
    l.heads.items (g.W.Write.contents l.fn.writer) (g.W.Write.contents l.writer) l.count
