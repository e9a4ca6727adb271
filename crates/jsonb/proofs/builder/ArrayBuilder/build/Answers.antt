use Rattle.std.proofs.lemmas.Result.{IfOk-weaker, on_ok_weaker}
use Rattle.jsonb_codec.proofs.MadeLaws.{made_if_fit}
use Rattle.jsonb.specs.Owned.{owned_bytes}
use Rattle.jsonb.specs.Storage.{AreHeld}
use Rattle.jsonb.specs.Building.{IsArrayOf}
use Rattle.jsonb.proofs.ResultObjects.{both_ok}
use Rattle.jsonb.proofs.ResultMeanings.{IsArrayUpToZeros-IsArrayOf}
use Rattle.jsonb.proofs.SameEntryLaws.{items_shown, items_held}
use Rattle.jsonb.proofs.builder.ArrayBuilder.build.Goals as goal

pub returns-clause-ok : goal.returns-clause-ok
returns-clause-ok c =
    IfOk-weaker c.array_document.result _ _
    (λ owned h. h _ (rw (← c.self.view_is, c.deref.ensures.value) (items_shown _)))
    c.array_document.ensures.ok

pub returns-clause-means : goal.returns-clause-means
returns-clause-means c =
    let made = c.array_document in
    IfOk-weaker made.result _ _
    (λ owned h. IsArrayUpToZeros-IsArrayOf c.args.self (owned_bytes owned) h.0 h.1)
    (both_ok made.result
    (λ owned. IsArrayOf c.args.self (owned_bytes owned)) (AreHeld c.args.self)
    (returns-clause-ok c)
    (on_ok_weaker made.result
    (λ h. rw (← c.self.view_is) (items_held _ (rw c.deref.ensures.value at h)))
    made.ensures.held))

pub returns-clause-limits : goal.returns-clause-limits
returns-clause-limits c =
    let made = c.array_document in
    made_if_fit made.result (IfOk-weaker made.result _ _ (λ _ h. h.fit) (returns-clause-ok c))
    (λ e. made.ensures.past e _ (rw (← c.self.view_is, c.deref.ensures.value) (items_shown _)))
    (λ e. made.ensures.memory e _ (rw (← c.self.view_is, c.deref.ensures.value) (items_shown _)))
    made.ensures.only
