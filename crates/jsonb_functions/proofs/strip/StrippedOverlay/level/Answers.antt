use Rattle.jsonb_functions.proofs.strip.StrippedOverlay.level.Goals as goal

pub returns-clause-is : goal.returns-clause-is
returns-clause-is c t (u, (h, e)) = rw e (c.stripped_level.ensures.is u h)
