use Rattle.std.proofs.Common.{inl}
use Rattle.jsonb_cli.specs.Answers.{answered}
use Rattle.jsonb_cli.proofs.calls.answer_cmp.Goals as goal

pub returns : goal.returns
returns c = inl (answered _ _ c.in_ok-left.ensures.ok c.in_ok-right.ensures.ok cc)
