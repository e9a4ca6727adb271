use Rattle.jsonb_functions.specs.declared.overlay.Laid.TheVariants.{Kept}
use Rattle.jsonb_functions.proofs.OverlayLaws.{members_of_object}
use Rattle.jsonb_functions.proofs.overlay.LaidPartSource.members.Goals as goal

pub returns-in-Kept-clause-are : goal.returns-in-Kept-clause-are
returns-in-Kept-clause-are g c ss h =
    members_of_object g.V.Meant.meaning g.V.Meant.laws (Kept c.in-Kept.object)
    (Kept c.members.result) c.members.ensures.members ss (rw c.in-Kept.is at h)

pub returns-in-Changed-clause-are : goal.returns-in-Changed-clause-are
returns-in-Changed-clause-are g c ss h = rw c.in-Changed.is at h
