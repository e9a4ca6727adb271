use Rattle.jsonb_functions.proofs.edit.EditedOverlay.level.Goals as goal

pub returns-in-Along-clause-is : goal.returns-in-Along-clause-is
returns-in-Along-clause-is c t h =
    let (u, (means, e)) = rw c.in-Along.is at h in rw e (c.edited_level.ensures.is u means)

pub returns-in-Made-clause-is : goal.returns-in-Made-clause-is
returns-in-Made-clause-is c t h = rw (rw c.in-Made.is at h) c.made_level.ensures.is
