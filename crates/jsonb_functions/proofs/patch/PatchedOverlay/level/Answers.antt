use Rattle.jsonb_functions.proofs.patch.PatchedOverlay.level.Goals as goal

pub returns-clause-is : goal.returns-clause-is
returns-clause-is c t ((u, v), (h, e)) = rw e (c.patched_level.ensures.is u v h.0 h.1)
