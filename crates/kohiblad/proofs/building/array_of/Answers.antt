use Rattle.std.proofs.Common.{◌≡◌, Err, subst, ◌∙◌, rules}
use Rattle.std.proofs.lemmas.Result.{IfOk-weaker}
use Rattle.jsonb_value.specs.declared.error.Error.TheVariants.{InvalidJsonb}
use Rattle.jsonb.specs.Document.{document_bytes}
use Rattle.jsonb.specs.Owned.{owned_bytes}
use Rattle.jsonb.specs.Results.{AreWithinLimits, IsArrayOfDocuments}
use Rattle.kohiblad.proofs.ResultLaws.{array_built}
use Rattle.kohiblad.proofs.Yielded.{drained}
use Rattle.kohiblad.proofs.building.array_of.Goals as goal

pub returns-in_err-documents : goal.returns-in_err-documents
returns-in_err-documents c =
    let (invalid, none) = c.in_err-documents.ensures.err in
    let refused : c.from_residual.result ≡ Err InvalidJsonb = search rules in
    rw refused (λ within limits. none within)

pub returns : goal.returns
returns c =
    let checked = c.in_ok-documents.ensures.ok in
    let built = c.build_array_of_documents in
    array_built c.args.depth c.args.rows built.result checked.1
    (IfOk-weaker built.result _ _
    (λ owned (it, (ds, (from, (all, is)))).
    subst (λ bs. IsArrayOfDocuments bs (owned_bytes owned))
    (drained document_bytes it ds all ∙ from ∙ checked.0) is) built.ensures.ok)
    (λ refused. let (it, (ds, (from, (all, is)))) = built.ensures.past refused in
    subst (λ bs. AreWithinLimits bs → ⊥) (drained document_bytes it ds all ∙ from ∙ checked.0) is)
    built.ensures.only
