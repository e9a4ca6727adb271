use Rattle.std.proofs.Common.{[], ◌∷◌, map, sym}
use Rattle.std.proofs.lemmas.List.{map-append}
use Rattle.std.proofs.lemmas.Result.{IfOk-weaker, on_ok_weaker}
use Rattle.jsonb_codec.proofs.MadeLaws.{made_if_fit}
use Rattle.jsonb.specs.Document.{document_bytes}
use Rattle.jsonb.specs.ItemView.{raw}
use Rattle.jsonb.proofs.ResultLaws.{map-map, IsArrayOfInputs-IsArrayOf}
use Rattle.jsonb.proofs.DocumentInputLaws.{all_documents, array_within, document_shown}
use Rattle.jsonb.proofs.DocumentInputLaws.{document_view, within_array, IsArrayOfDocuments-inputs}
use Rattle.jsonb.proofs.owned.OwnedJsonb.build_array_of_documents.Goals as goal

pub loop-document-preserved : goal.loop-document-preserved
loop-document-preserved g c =
    let walk = c.loop-document in
    rw (map-append document_view walk.yielded (c.in-Some.document ∷ []))
    (c.push.ensures (map document_view walk.yielded) (document_view c.in-Some.document)
    (document_shown c.in-Some.document) walk.invariant)

pub returns-clause-limits : goal.returns-clause-limits
returns-clause-limits g c =
    let walk = c.loop-document in
    let ds = walk.yielded in
    let made = rw (← map-map raw document_bytes ds) at
    (c.build.ensures.limits (map document_view ds) walk.invariant) in (
      c.into_iter-document-iterator.result,
      (
        ds,
        (
          c.into_iter-document-iterator.ensures.into_iter_gives,
          (
            (
              c.next.new.self,
              (walk.document-iterator, walk.yielded_by, c.in-None.ensures.steps),
            ),
            made_if_fit c.build.result
                (on_ok_weaker c.build.result (array_within (map document_bytes ds)) made.fits)
                (λ e within. made.past.0 e
                (within_array (map document_bytes ds) (all_documents ds) within))
                (λ e. array_within (map document_bytes ds) (made.memory e)) made.only,
          ),
        ),
      ),
    )

pub returns-clause-past : goal.returns-clause-past
returns-clause-past g c = λ e.
    let (it, (ds, (made, (drained, limits)))) = returns-clause-limits g c in
    (it, (ds, (made, (drained, limits.past.0 e))))

pub returns-clause-only : goal.returns-clause-only
returns-clause-only g c =
    let walk = c.loop-document in
    (c.build.ensures.limits (map document_view walk.yielded) walk.invariant).only

pub returns-clause-ok : goal.returns-clause-ok
returns-clause-ok g c =
    let walk = c.loop-document in
    let ds = walk.yielded in
    IfOk-weaker c.build.result _ _
    (λ owned h. (
      c.into_iter-document-iterator.result,
      (
        ds,
        (
          c.into_iter-document-iterator.ensures.into_iter_gives,
          (
            (
              c.next.new.self,
              (walk.document-iterator, walk.yielded_by, c.in-None.ensures.steps),
            ),
            IsArrayOfDocuments-inputs (map document_bytes ds) _ (all_documents ds)
                (IsArrayOfInputs-IsArrayOf (map document_bytes ds) _ _
                (sym (map-map raw document_bytes ds)) (h (map document_view ds) walk.invariant)),
          ),
        ),
      ),
    )) c.build.ensures.ok
