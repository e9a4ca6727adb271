use Rattle.jsonb_functions.proofs.overlay.LaidPartSource.level.Goals as goal

pub returns-in-Kept-clause-is : goal.returns-in-Kept-clause-is
returns-in-Kept-clause-is g c s h =
    let k = rw c.in-Kept.is at h in rw (k.1 k.0.0 k.0.1) (c.kept_level.ensures.is k.0.0 k.0.1)

pub returns-in-Changed-clause-is : goal.returns-in-Changed-clause-is
returns-in-Changed-clause-is g c s h =
    let k = rw c.in-Changed.is at h in rw (k.1 k.0.0 k.0.1) (c.level.ensures.is k.0.0 k.0.1)
