use Rattle.std.proofs.Common.{rules, ◌≡◌, ℕ, List, Err, inl, subst}
use Rattle.jsonb.specs.Parsing.{ParsesTo}
use Rattle.jsonb_cli.specs.Answers.{encoded}
use Rattle.jsonb_cli.proofs.Answering.{enc_refused}
use Rattle.jsonb_cli.proofs.calls.answer_enc.Goals as goal

pub returns-in-Ok-parse : goal.returns-in-Ok-parse
returns-in-Ok-parse c =
    let same : c.in-Ok.json.now ≡ c.args.text.now = search rules in
    inl (encoded _ c.in-Ok.ensures.1 (rw same at c.in-Ok-parse.ensures.value)
    (rw c.to_vec.ensures))

pub returns-in-Err : goal.returns-in-Err
returns-in-Err c =
    let same : c.in-Ok.json.now ≡ c.args.text.now = search rules in
    enc_refused c.args.text.now c.in-Err.error c.in-Ok.ensures.1
    (subst (λ (text : List ℕ). ParsesTo text (Err c.in-Err.error)) same c.in-Err.ensures.value)
