-- The rows so far are merged.
use Rattle.kohiblad_shell.proofs.SortedRunEnds.{MergingAll}
use Rattle.kohiblad_shell.proofs.sorted_run.merge_runs.Given as goal

abbrev pub invariant-merging : goal.invariant-merging
invariant-merging g l =
    MergingAll (g.R.Read.remaining) l.arrangement l.what l.fn.runs l.runs l.heads.items l.last
    (g.W.Write.contents l.fn.writer) (g.W.Write.contents l.writer)
