use Rattle.jsonb_functions.specs.declared.overlay.Laid.TheVariants.{Kept, Changed}
use Rattle.jsonb_functions.proofs.OverlayLaws.{members_number}
use Rattle.jsonb_functions.proofs.overlay.LaidPartSource.members_left.Goals as goal

pub returns-in-Kept : goal.returns-in-Kept
returns-in-Kept g c ss h =
    members_number g.V.Meant.meaning (Kept c.in-Kept.members) _ c.member_count.ensures.count ss
    (rw c.in-Kept.is at h)

pub returns-in-Changed : goal.returns-in-Changed
returns-in-Changed g c ss h =
    members_number g.V.Meant.meaning (Changed c.in-Changed.counted) _ (λ ps k. k.1) ss
    (rw c.in-Changed.is at h)
