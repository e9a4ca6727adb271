use Rattle.std.proofs.Common.{◌≡◌, refl, Err, rules}
use Rattle.std.proofs.lemmas.Result.{on_ok_weaker}
use Rattle.jsonb_codec.specs.Code.{code_of}
use Rattle.jsonb_codec.specs.Shape.{leaf}
use Rattle.jsonb_codec.proofs.MadeLaws.{made_if_fit, made_passed_on}
use Rattle.jsonb.proofs.owned.of_scalar.Goals as goal

pub returns-in_err-append_document-clause-limits :
    goal.returns-in_err-append_document-clause-limits
returns-in_err-append_document-clause-limits c =
    let code = code_of c.args.code in
    let a = c.append_document in
    let e = c.in_err-append_document.field-0.0 in
    let handed : c.from_residual.result ≡ Err e = search rules in
    let refused : a.result ≡ Err e = search rules in
    made_passed_on _ _ e handed refused (λ fits. fits, λ fits. fits)
    (made_if_fit a.result (on_ok_weaker a.result (λ known. (known (leaf code.0 code.1) refl).0)
    a.ensures.appended)
    (λ past. a.ensures.past.0 past _ refl) (λ out. a.ensures.memory out _ refl) a.ensures.only)

pub returns-clause-ok : goal.returns-clause-ok
returns-clause-ok c =
    let code = code_of c.args.code in
    let (fits, made) = c.in_ok-append_document.ensures.appended (leaf code.0 code.1) refl in
    rw (c.new.ensures, made, c.new-bytes.ensures.items)
