use Rattle.std.proofs.Common.{◌≡◌, false, option_map, refl}
use Rattle.kohiblad_shell.specs.Merges.{stays_sorted}
use Rattle.kohiblad_shell.proofs.MergeLaws.{next_unsorted, next_wrong}
use Rattle.kohiblad_shell.proofs.merge.next_head.Goals as goal

pub returns-then-not-stays_sorted-clause-fault : goal.returns-then-not-stays_sorted-clause-fault
returns-then-not-stays_sorted-clause-fault g c =
    let not : stays_sorted (option_map (λ h. h.now) c.args.last) c.in_ok-head-in-Rows.head
    ≡ false = cc in
    rw c.fault_at.ensures (
      refl,
      (
        (rw c.last_number-before.ensures at c.in_ok-number.ensures.later),
        next_unsorted (g.L.LineWorker.rule c.args.worker.now) c.args.form
            (option_map (λ h. h.now) c.args.last)
            (g.R.Read.remaining c.args.reader.now) (g.R.Read.remaining c.next_answer.new.reader)
            c.in-Rows.lines c.in_ok-head-in-Rows.head c.in_ok-number.field-0.number
            (rw (c.last_number-before.ensures, c.in-Rows.is) at c.in_ok-number.ensures.answer)
            (rw c.deref.ensures.value at c.in_ok-head-in-Rows.ensures.row) not,
      ),
    )

pub returns-in-Wrong-clause-fault : goal.returns-in-Wrong-clause-fault
returns-in-Wrong-clause-fault g c =
    rw c.fault_at-in-Wrong.ensures (
      refl,
      (
        (rw c.last_number-before.ensures at c.in_ok-number.ensures.later),
        next_wrong (g.L.LineWorker.rule c.args.worker.now) c.args.form
            (option_map (λ h. h.now) c.args.last)
            (g.R.Read.remaining c.args.reader.now) (g.R.Read.remaining c.next_answer.new.reader)
            c.in_ok-number.field-0.number c.in-Wrong.fault
            (rw (c.last_number-before.ensures, c.in-Wrong.is) at c.in_ok-number.ensures.answer),
      ),
    )
