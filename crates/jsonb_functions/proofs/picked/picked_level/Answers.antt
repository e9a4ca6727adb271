use Rattle.std.proofs.Common.{refl, sym, ◌∙◌}
use Rattle.jsonb_functions.specs.declared.overlay.Laid.TheVariants.{Changed}
use Rattle.jsonb_functions.specs.ChosenSource.{chosen_laws, chosen_meaning, kept_pairs}
use Rattle.jsonb_functions.proofs.OverlayLaws.{object_is}
use Rattle.jsonb_functions.proofs.PickLaws.{picked_other, picked_array, picked_object}
use Rattle.jsonb_functions.proofs.picked.picked_level.Goals as goal

pub returns-then-part-ne-CONTAINER_TAG : goal.returns-then-part-ne-CONTAINER_TAG
returns-then-part-ne-CONTAINER_TAG c t h =
    rw (picked_other c.args.choice.names.now c.args.choice.which t
    (λ e. c.if-part-ne-CONTAINER_TAG.true (sym h.0 ∙ e))) (c.kept_level.ensures.is t h)

pub returns-in-Array : goal.returns-in-Array
returns-in-Array c t h =
    let (ts, (is, are)) = c.in-Array.ensures.contents t h in
    rw (picked_array c.args.choice.names.now c.args.choice.which t ts is)
    (c.kept_level-in-Array.ensures.is t h)

pub returns-in-Object : goal.returns-in-Object
returns-in-Object c t h =
    let (ps, (is, object)) = c.in-Object.ensures.contents t h in
    let are = c.members-members.ensures.members ps object in
    let choice = c.args.choice in
    object_is chosen_meaning chosen_laws (Changed (record {
      members = record { members = c.members-members.result; choice = choice };
      count = c.count_kept.result;
    })) _ (kept_pairs choice ps) (picked_object choice.names.now choice.which t ps is)
    ((ps, (are, refl)), c.count_kept.ensures ps are)
