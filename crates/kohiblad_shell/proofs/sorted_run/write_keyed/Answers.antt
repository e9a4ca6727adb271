use Rattle.answer_lines.proofs.Output.{prefix_of_more}
use Rattle.answer_lines.proofs.Running.{on_err}
use Rattle.jsonb.specs.StoredRow.{row_bytes}
use Rattle.kohiblad_shell.proofs.SortedRunLaws.{err_after}
use Rattle.kohiblad_shell.proofs.sorted_run.write_keyed.Goals as goal

pub returns-in_err-write_part-clause-err : goal.returns-in_err-write_part-clause-err
returns-in_err-write_part-clause-err g c =
    on_err _ _ (prefix_of_more (row_bytes c.args.line.now) c.in_err-write_part.ensures.err)

pub returns-clause-err : goal.returns-clause-err
returns-clause-err g c =
    err_after _ _ _ _ (row_bytes c.args.key.now) (row_bytes c.args.line.now)
    c.in_ok-write_part.ensures.ok c.write_part-2.ensures.err
