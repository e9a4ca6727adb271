use Rattle.std.proofs.Common.{rules, arith, sym}
use Rattle.std.proofs.KnownBytes.{Keeps-refl}
use Rattle.answer_lines.proofs.Running.{on_err}
use Rattle.kohiblad_shell.proofs.RunLaws.{run_begins, run_stops, run_ends, run_answers, run_breaks}
use Rattle.kohiblad_shell.proofs.RunLaws.{run_reports, run_halts, run_breaks_report}
use Rattle.kohiblad_shell.proofs.run.take_lines.Goals as goal
use Rattle.kohiblad_shell.proofs.run.take_lines.Goals.{in-Rows+in_ok-write_bytes-in-Rows}
use Rattle.kohiblad_shell.proofs.run.take_lines.Goals.{
  in-Wrong+in_ok-report_fault-in-Wrong+else-stops_at,
}

pub taking-init : goal.taking-init
taking-init g c = record {
  so_far = run_begins _ _ _ _ _ _ _;
  few_rows = search rules;
  few_faults = search rules;
}

pub returns-in_err-lines-clause-beginning : goal.returns-in_err-lines-clause-beginning
returns-in_err-lines-clause-beginning g c =
    rw c.in_err-lines.ensures.kept
    (on_err _ _
    (run_stops _ _ g.L.LineWorker.keeps _ _ _ _ _ _ _ _ _ _ _ _ _ _ c.taking.invariant.so_far
    (Keeps-refl _)
    (Keeps-refl _)))

pub returns-in_err-write_bytes-in-Rows-clause-beginning :
    goal.returns-in_err-write_bytes-in-Rows-clause-beginning
returns-in_err-write_bytes-in-Rows-clause-beginning g c =
    on_err _ _
    (run_breaks _ _ g.L.LineWorker.keeps _ _ _ _ _ _ _ _ _ _ _ _ _ _ _ c.in-Rows.lines
    c.taking.invariant.so_far
    (rw c.in-Rows.is at c.in_ok-lines.ensures.answer)
    (rw c.in-Rows.is at c.in_ok-lines.ensures.after)
    (rw c.deref.ensures.value at c.in_err-write_bytes-in-Rows.ensures.err))

pub returns-in_err-report_fault-in-Wrong-clause-beginning :
    goal.returns-in_err-report_fault-in-Wrong-clause-beginning
returns-in_err-report_fault-in-Wrong-clause-beginning g c =
    on_err _ _
    (run_breaks_report _ _ g.L.LineWorker.keeps _ _ _ _ _ _ _ _ _ _ _ _ _ _ _ _ c.in-Wrong.fault
    c.taking.invariant.so_far
    (rw c.in-Wrong.is at c.in_ok-lines.ensures.answer)
    (rw c.in-Wrong.is at c.in_ok-lines.ensures.after) c.report_fault.ensures.rows
    c.in_err-report_fault-in-Wrong.ensures.err)

pub returns-then-stops_at-clause-done : goal.returns-then-stops_at-clause-done
returns-then-stops_at-clause-done g c =
    run_halts _ _ g.L.LineWorker.keeps _ _ _ _ _ _ _ _ _ _ _ _ _ _ _ _ c.in-Wrong.fault
    c.taking.invariant.so_far
    (rw c.in-Wrong.is at c.in_ok-lines.ensures.answer)
    (rw c.in-Wrong.is at c.in_ok-lines.ensures.after) c.report_fault.ensures.rows
    c.in_ok-report_fault-in-Wrong.ensures.ok (sym c.if-stops_at.ensures)

pub returns-in-End-clause-done : goal.returns-in-End-clause-done
returns-in-End-clause-done g c =
    run_ends _ _ g.L.LineWorker.keeps _ _ _ _ _ _ _ _ _ _ _ _ _ _ c.taking.invariant.so_far
    (rw c.in-End.is at c.in_ok-lines.ensures.answer)
    (rw c.in-End.is at c.in_ok-lines.ensures.after)

pub taking-preserved : goal.taking-preserved
taking-preserved g c =
    elim c.match-branch-2.branch [
      | in-Rows+in_ok-write_bytes-in-Rows w ↦
          rw (w.writer-is, w.errors-is, w.rows-is, w.faults-is) (record {
            so_far = run_answers _ _ g.L.LineWorker.keeps _ _ _ _ _ _ _ _ _ _ _ _ _ _ _
                w.in-Rows.lines
                w.count_row-rows.result c.taking.invariant.so_far
                (rw w.in-Rows.is at c.in_ok-lines.ensures.answer)
                (rw w.in-Rows.is at c.in_ok-lines.ensures.after)
                (rw w.deref.ensures.value at w.in_ok-write_bytes-in-Rows.ensures.ok)
                (rw w.deref-in-Rows.ensures.value at w.count_row-rows.ensures.count);
            few_rows = omega (arith, c.taking.invariant.few_rows, w.count_row-rows.ensures.one);
            few_faults = omega (arith, c.taking.invariant.few_faults);
          })
      | in-Wrong+in_ok-report_fault-in-Wrong+else-stops_at w ↦
          rw (w.writer-is, w.errors-is, w.rows-is, w.faults-is) (record {
            so_far = run_reports _ _ g.L.LineWorker.keeps _ _ _ _ _ _ _ _ _ _ _ _ _ _ _ _
                w.in-Wrong.fault
                c.taking.invariant.so_far
                (rw w.in-Wrong.is at c.in_ok-lines.ensures.answer)
                (rw w.in-Wrong.is at c.in_ok-lines.ensures.after)
                w.report_fault.ensures.rows w.in_ok-report_fault-in-Wrong.ensures.ok
                (sym w.if-stops_at.ensures);
            few_rows = omega (arith, c.taking.invariant.few_rows);
            few_faults = omega (arith, c.taking.invariant.few_faults);
          })
    ]

pub returns-clause-beginning : goal.returns-clause-beginning
returns-clause-beginning g c =
    run_stops _ _ g.L.LineWorker.keeps _ _ _ _ _ _ _ _ _ _ _ _ _ _ c.taking.invariant.so_far
    (Keeps-refl _)
    (Keeps-refl _)
