use Rattle.std.proofs.Common.{Some, None}
use Rattle.jsonb_functions.specs.declared.overlay.Laid.TheVariants.{Kept, Changed}
use Rattle.jsonb_functions.proofs.OverlayLaws.{item_split}
use Rattle.jsonb_functions.proofs.overlay.LaidPartSource.split_item.Goals as goal

pub returns-in_err-part-in-Kept-clause-split : goal.returns-in_err-part-in-Kept-clause-split
returns-in_err-part-in-Kept-clause-split g c ss h =
    rw c.from_residual.ensures (item_split g.V.Meant.meaning g.V.Meant.laws
    (Kept c.in-Kept.items) None c.in_err-part-in-Kept.ensures.none ss (rw c.in-Kept.is at h))

pub returns-in_ok-part-in-Kept-clause-split : goal.returns-in_ok-part-in-Kept-clause-split
returns-in_ok-part-in-Kept-clause-split g c ss h =
    let first = c.in_ok-part-in-Kept in
    item_split g.V.Meant.meaning g.V.Meant.laws (Kept c.in-Kept.items)
    (Some (Kept first.field-0.part, Kept first.field-0.later)) (λ ts are.
    let f = first.ensures.first ts are in
    record { first = f.first; others = f.others; are = f.are; is = f.is; left = f.later })
    ss (rw c.in-Kept.is at h)

pub returns-in-Changed-clause-split : goal.returns-in-Changed-clause-split
returns-in-Changed-clause-split g c ss h =
    item_split g.V.Meant.meaning g.V.Meant.laws (Changed c.in-Changed.items) c.next_item.result
    c.next_item.ensures.first ss (rw c.in-Changed.is at h)
