use Rattle.std.proofs.Common.{inl, ap}
use Rattle.jsonb_cli.specs.Answers.{no_document, printed}
use Rattle.jsonb_cli.proofs.Answering.{failed, said_of}
use Rattle.jsonb_cli.proofs.calls.answer_pretty.Goals as goal

pub returns-in-Ok : goal.returns-in-Ok
returns-in-Ok c =
    let (t, (means, is)) = rw c.deref.ensures.value at c.in-Ok.ensures.ok in
    inl (printed _ t c.in_ok-bytes.ensures.ok means cc)

pub returns : goal.returns
returns c =
    failed c.in-Err.ensures.only
    (λ is. no_document _ c.in_ok-bytes.ensures.ok
    (rw c.deref.ensures.value at (c.in-Err.ensures.none is)) (ap said_of is))
