-- The rows so far give nothing.
use Rattle.std.proofs.Common.{◌-◌}
use Rattle.kohiblad_shell.proofs.MergeLaws.{HasPassed}
use Rattle.kohiblad_shell.proofs.merge.next_answer.Given as goal

abbrev pub invariant-passing : goal.invariant-passing
invariant-passing g l =
    HasPassed (g.L.LineWorker.rule l.worker) l.form (g.R.Read.remaining l.fn.reader)
    (g.R.Read.remaining l.reader) (l.passed - l.before)
