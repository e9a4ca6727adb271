use Rattle.std.proofs.Common.{rules, ◌≡◌, ◌∷◌, ◌++◌, [], append_assoc}
use Rattle.std.proofs.lemmas.Result.{IfOk-weaker}
use Rattle.std.specs.String.{string_bytes}
use Rattle.jsonb_cli.specs.declared.answer.Answer.TheVariants.{Counted}
use Rattle.jsonb_cli.specs.AnswerLine.{outcome_line}
use Rattle.jsonb_cli.proofs.answer.line_text.Goals as goal

pub returns-in-Ok-Counted : goal.returns-in-Ok-Counted
returns-in-Ok-Counted c =
    let counted : c.in-Ok-Counted.field-0 ≡ Counted c.in-Ok-Counted.word c.in-Ok-Counted.count =
    search rules in
    IfOk-weaker _ _ (λ line. string_bytes line ≡ outcome_line c.args.outcome.now ++ 10 ∷ [])
    (λ line is. rw (c.in-Ok-Counted.is, counted) (simp append_assoc is))
    c.format-in-Ok-Counted.ensures.ok
