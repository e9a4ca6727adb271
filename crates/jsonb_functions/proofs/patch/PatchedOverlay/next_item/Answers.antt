use Rattle.jsonb_functions.proofs.patch.PatchedOverlay.next_item.Goals as goal

pub returns-clause-first : goal.returns-clause-first
returns-clause-first c ts h =
    let f = c.in_ok-part.ensures.first ts h in
    record { first = f.first; others = f.others; are = f.are; is = f.is; left = f.later }
