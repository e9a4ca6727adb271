use Rattle.jsonb_cli.specs.AnswerLine.{outcome_line}
use Rattle.jsonb_cli.proofs.Answering.{replied}
use Rattle.jsonb_cli.proofs.run.CommandsLineAnswerer.answer.Goals as goal

pub returns : goal.returns
returns c = record {
  reply = replied c.line_text.result c.args.self.now c.args.line.now
      (outcome_line c.answer.result) c.answer.ensures.possible c.line_text.ensures;
}
