use Rattle.std.proofs.Common.{◌≤◌}
use Rattle.kohiblad_shell.proofs.RunLaws.{IsSoFar}
use Rattle.kohiblad_shell.proofs.run.take_lines.Given as goal

abbrev pub invariant-taking : goal.invariant-taking
invariant-taking g l = record {
  so_far : IsSoFar g.L.LineWorker.rule g.L.LineWorker.after l.initial.worker l.worker l.plan
      (g.R.Read.remaining l.initial.reader) (g.R.Read.remaining l.reader)
      (g.W.Write.contents l.initial.writer) (g.W.Write.contents l.writer)
      (g.E.Write.contents l.initial.errors) (g.E.Write.contents l.errors)
      l.before l.rows l.faults;
  few_rows : l.rows ≤ l.before;
  few_faults : l.faults ≤ l.before;
}
