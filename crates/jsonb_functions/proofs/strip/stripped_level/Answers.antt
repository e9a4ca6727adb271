use Rattle.std.proofs.Common.{refl, sym, ap, ◌∙◌}
use Rattle.jsonb_functions.specs.declared.overlay.Laid.TheVariants.{Changed}
use Rattle.jsonb_functions.specs.Stripped.{stripped, items_stripped, members_stripped}
use Rattle.jsonb_functions.specs.StripSource.{strip_laws, strip_meaning}
use Rattle.jsonb_functions.proofs.OverlayLaws.{array_is, object_is}
use Rattle.jsonb_functions.proofs.StripLaws.{scalar_stripped}
use Rattle.jsonb_functions.proofs.strip.stripped_level.Goals as goal

pub returns-then-part-ne-CONTAINER_TAG-clause-is : goal.returns-then-part-ne-CONTAINER_TAG-clause-is
returns-then-part-ne-CONTAINER_TAG-clause-is c t h =
    rw (scalar_stripped t (λ same. c.if-part-ne-CONTAINER_TAG.true (sym h.0 ∙ same)))
    (c.kept_level.ensures.is t h)

pub returns-in-Array-clause-is : goal.returns-in-Array-clause-is
returns-in-Array-clause-is c t h =
    let (ts, (is, are)) = c.in-Array.ensures.contents t h in
    array_is strip_meaning strip_laws (Changed c.in-Array.items) _ (items_stripped ts)
    (ap stripped is) (ts, (are, refl))

pub returns-in-Object-clause-is : goal.returns-in-Object-clause-is
returns-in-Object-clause-is c t h =
    let (ps, (is, object)) = c.in-Object.ensures.contents t h in
    let are = c.members-members.ensures.members ps object in
    object_is strip_meaning strip_laws
    (Changed (record { members = c.members-members.result; count = c.count_kept.result })) _
    (members_stripped ps) (ap stripped is) ((ps, (are, refl)), c.count_kept.ensures ps are)
