use Rattle.std.proofs.Common.{rules, ◌≡◌, inl}
use Rattle.std.specs.Prelude.{Ok, Err}
use Rattle.jsonb.specs.Kind.{kind}
use Rattle.jsonb_cli.specs.Answers.{answered}
use Rattle.jsonb_cli.proofs.calls.answer_type.Goals as goal

pub returns-in-Ok : goal.returns-in-Ok
returns-in-Ok c =
    let is : kind c.in_ok-bytes.bytes.items ≡ Ok c.in-Ok.kind = search rules in
    inl (answered _ c.in_ok-bytes.ensures.ok (rw (is, c.kind_answer.ensures)))

pub returns : goal.returns
returns c =
    let is : kind c.in_ok-bytes.bytes.items ≡ Err c.in-Err.error = search rules in
    inl (answered _ c.in_ok-bytes.ensures.ok (rw is))
