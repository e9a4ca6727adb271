use Rattle.std.proofs.lemmas.Result.{IfOk-weaker, on_ok_weaker}
use Rattle.std.specs.Map.{keys_of, values_of}
use Rattle.jsonb_codec.proofs.MadeLaws.{made_if_fit}
use Rattle.jsonb.specs.Owned.{owned_bytes}
use Rattle.jsonb.specs.ItemView.{item_view}
use Rattle.jsonb.specs.Storage.{AreHeld}
use Rattle.jsonb.specs.Building.{AreKeys, IsObjectOf}
use Rattle.jsonb.proofs.ResultObjects.{both_ok}
use Rattle.jsonb.proofs.ResultMeanings.{IsObjectUpToZeros-IsObjectOf}
use Rattle.jsonb.proofs.SameEntryLaws.{pairs_shown, pairs_held, keys_shown}
use Rattle.jsonb.proofs.builder.ObjectBuilder.build.Goals as goal

pub returns-clause-ok : goal.returns-clause-ok
returns-clause-ok c =
    IfOk-weaker c.object_document.result _ _
    (λ owned h. h _ (rw (← c.self.view_is) (pairs_shown _))) c.object_document.ensures.ok

pub returns-clause-keys : goal.returns-clause-keys
returns-clause-keys c =
    on_ok_weaker c.object_document.result
    (λ h. rw (← c.self.view_is, ← keys_shown item_view c.self.inside.pairs.entries) h)
    c.object_document.ensures.keys

pub returns-clause-means : goal.returns-clause-means
returns-clause-means c =
    let made = c.object_document in
    IfOk-weaker made.result _ _
    (λ owned h. IsObjectUpToZeros-IsObjectOf c.args.self (owned_bytes owned) h.0.0 h.0.1 h.1)
    (both_ok made.result
    (λ owned. IsObjectOf c.args.self (owned_bytes owned) × AreKeys (keys_of c.args.self))
    (AreHeld (values_of c.args.self))
    (both_ok made.result
    (λ owned. IsObjectOf c.args.self (owned_bytes owned)) (AreKeys (keys_of c.args.self))
    (returns-clause-ok c) (returns-clause-keys c))
    (on_ok_weaker made.result (λ h. rw (← c.self.view_is) (pairs_held _ h)) made.ensures.held))

pub returns-clause-limits : goal.returns-clause-limits
returns-clause-limits c =
    let made = c.object_document in
    made_if_fit made.result (IfOk-weaker made.result _ _ (λ _ h. h.fit) (returns-clause-ok c))
    (λ e. made.ensures.past e _ (rw (← c.self.view_is) (pairs_shown _)))
    (λ e. made.ensures.memory e _ (rw (← c.self.view_is) (pairs_shown _)))
    made.ensures.only
