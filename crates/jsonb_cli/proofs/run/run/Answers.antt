use Rattle.jsonb_cli.proofs.OneAnswer.{one_output}
use Rattle.jsonb_cli.proofs.SomeAnswer.{exactly_one}
use Rattle.jsonb_cli.proofs.run.run.Goals as goal

pub returns-clause-one_answer : goal.returns-clause-one_answer
returns-clause-one_answer g c = exactly_one

pub returns-in_err-answer_lines-clause-one_answer : goal.returns-in_err-answer_lines-clause-one_answer
returns-in_err-answer_lines-clause-one_answer g c = exactly_one

pub returns-clause-one_output : goal.returns-clause-one_output
returns-clause-one_output g c = one_output

pub returns-in_err-answer_lines-clause-one_output : goal.returns-in_err-answer_lines-clause-one_output
returns-in_err-answer_lines-clause-one_output g c = one_output
