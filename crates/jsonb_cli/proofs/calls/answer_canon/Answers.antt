use Rattle.std.proofs.Common.{rules, ◌≡◌, ℕ, List, Err, inl, subst}
use Rattle.jsonb.specs.Canonical.{RewritesTo}
use Rattle.jsonb.specs.Raw.{raw_bytes}
use Rattle.jsonb_cli.specs.Answers.{written}
use Rattle.jsonb_cli.proofs.Answering.{canon_refused}
use Rattle.jsonb_cli.proofs.calls.answer_canon.Goals as goal

pub returns-in-Ok : goal.returns-in-Ok
returns-in-Ok c =
    let same : raw_bytes c.new.result ≡ c.in_ok-bytes.bytes.items = search rules in
    inl (written _ _ c.in_ok-bytes.ensures.ok (rw same at c.in-Ok.ensures.value)
    (rw c.to_vec.ensures))

pub returns : goal.returns
returns c =
    let same : raw_bytes c.new.result ≡ c.in_ok-bytes.bytes.items = search rules in
    canon_refused c.args.word.now c.in_ok-bytes.bytes.items c.in-Err.error c.in_ok-bytes.ensures.ok
    (subst (λ (bytes : List ℕ). RewritesTo bytes (Err c.in-Err.error)) same c.in-Err.ensures.value)
