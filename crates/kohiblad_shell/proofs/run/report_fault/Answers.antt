use Rattle.kohiblad_shell.proofs.RunLaws.{prefix_of_none}
use Rattle.answer_lines.proofs.Running.{on_err}
use Rattle.kohiblad_shell.proofs.run.report_fault.Goals as goal

pub returns-in_err-report-clause-err : goal.returns-in_err-report-clause-err
returns-in_err-report-clause-err g c = on_err _ _ (prefix_of_none _ _)
