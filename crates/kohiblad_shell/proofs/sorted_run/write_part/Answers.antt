use Rattle.answer_lines.proofs.Output.{prefix_of_more}
use Rattle.answer_lines.proofs.Running.{on_err}
use Rattle.kohiblad_shell.proofs.SortedRunLaws.{err_after}
use Rattle.kohiblad_shell.proofs.sorted_run.write_part.Goals as goal

pub returns-in_err-write_bytes-clause-err : goal.returns-in_err-write_bytes-clause-err
returns-in_err-write_bytes-clause-err g c =
    on_err _ _
    (prefix_of_more c.args.part.now
    (rw c.to_be_bytes.ensures at c.in_err-write_bytes.ensures.err))

pub returns-clause-err : goal.returns-clause-err
returns-clause-err g c =
    err_after _ _ _ _ _ _ (rw c.to_be_bytes.ensures at c.in_ok-write_bytes.ensures.ok)
    c.write_bytes-2.ensures.err
