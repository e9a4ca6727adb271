use Rattle.jsonb_cli.proofs.OneAnswer.{one_answer, one_output}
use Rattle.jsonb_cli.proofs.laws.answer_laws.Goals as goal

pub returns : goal.returns
returns c = record { one = one_answer; one_output = one_output }
