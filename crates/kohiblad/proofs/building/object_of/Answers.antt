use Rattle.std.proofs.Common.{sym, subst, ◌∙◌}
use Rattle.std.proofs.lemmas.Result.{IfOk-weaker}
use Rattle.jsonb.specs.Owned.{owned_bytes}
use Rattle.jsonb.specs.Results.{IsObjectOfDocuments, PairsExceedLimits, document_pair}
use Rattle.kohiblad.proofs.Objects.{not_distinct}
use Rattle.kohiblad.proofs.ResultLaws.{object_built}
use Rattle.kohiblad.proofs.Yielded.{drained, met}
use Rattle.kohiblad.proofs.building.object_of.Goals as goal

pub returns : goal.returns
returns c =
    let checked = c.in_ok-members.ensures.ok in
    let built = c.build_object_of_documents in
    object_built c.args.depth _ built.result checked.1.0 checked.1.1
    (IfOk-weaker built.result _ _
    (λ owned (it, (xs, (from, (all, is)))).
    subst (λ ps. IsObjectOfDocuments ps (owned_bytes owned))
    (drained document_pair it xs all ∙ from ∙ checked.0) is) built.ensures.ok)
    (λ refused. let (it, (xs, (from, (all, is)))) = built.ensures.past refused in
    subst PairsExceedLimits (drained document_pair it xs all ∙ from ∙ checked.0) is)
    (λ refused.
    let (it, (xs, (x, (left, (from, (run, there)))))) = built.ensures.duplicate refused in
    not_distinct _ _ left _ (sym (from ∙ checked.0) ∙ met document_pair it left xs x run) there)
    built.ensures.only
