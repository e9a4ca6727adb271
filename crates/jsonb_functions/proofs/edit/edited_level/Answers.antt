use Rattle.std.proofs.Common.{refl, sym, ◌∙◌}
use Rattle.jsonb_functions.specs.EditSource.{edit_laws, edit_meaning, operation_of}
use Rattle.jsonb_functions.proofs.EditLaws.{array_edited, edited_none, edited_scalar}
use Rattle.jsonb_functions.proofs.EditLaws.{later_steps, object_edited, path_split}
use Rattle.jsonb_functions.proofs.OverlayLaws.{array_is, object_is}
use Rattle.jsonb_functions.proofs.edit.edited_level.Goals as goal

pub returns-in_default-clause-is : goal.returns-in_default-clause-is
returns-in_default-clause-is c t h =
    rw (edited_none c.args.plan.path.now (operation_of c.args.plan.change.now) t
    c.in_default.len_below) (c.kept_level.ensures.is t h)

pub returns-then-part-ne-CONTAINER_TAG-clause-is :
    goal.returns-then-part-ne-CONTAINER_TAG-clause-is
returns-then-part-ne-CONTAINER_TAG-clause-is c t h =
    rw (edited_scalar c.args.plan.path.now (operation_of c.args.plan.change.now) t
    (λ e. c.if-part-ne-CONTAINER_TAG.true (sym h.0 ∙ e)))
    (c.kept_level-then-part-ne-CONTAINER_TAG.ensures.is t h)

pub returns-in-Array-clause-is : goal.returns-in-Array-clause-is
returns-in-Array-clause-is c t h =
    let (ts, (is, are)) = c.in-Array.ensures.contents t h in
    let path = c.args.plan.path.now in
    array_is edit_meaning edit_laws c.edited_items.result _ _
    (array_edited path (later_steps path) _ (operation_of c.args.plan.change.now) t ts
    (path_split path _ _ c.in-len1-up.len_at_least refl) is) (c.edited_items.ensures.are ts are)

pub returns-in-Object-clause-is : goal.returns-in-Object-clause-is
returns-in-Object-clause-is c t h =
    let (ps, (is, are)) = c.in-Object.ensures.contents t h in
    let path = c.args.plan.path.now in
    object_is edit_meaning edit_laws c.edited_object.result _ _
    (object_edited path (later_steps path) _ (operation_of c.args.plan.change.now) t ps
    (path_split path _ _ c.in-len1-up.len_at_least refl) is) (c.edited_object.ensures.is ps are)
