use Rattle.jsonb_functions.specs.declared.overlay.Laid.TheVariants.{Kept, Changed}
use Rattle.jsonb_functions.proofs.OverlayLaws.{items_number}
use Rattle.jsonb_functions.proofs.overlay.LaidPartSource.count.Goals as goal

pub returns-in-Kept : goal.returns-in-Kept
returns-in-Kept g c ss h =
    items_number g.V.Meant.meaning (Kept c.in-Kept.items) _ c.item_count.ensures.count ss
    (rw c.in-Kept.is at h)

pub returns-in-Changed : goal.returns-in-Changed
returns-in-Changed g c ss h =
    items_number g.V.Meant.meaning (Changed c.in-Changed.items) _ c.items_count.ensures ss
    (rw c.in-Changed.is at h)
