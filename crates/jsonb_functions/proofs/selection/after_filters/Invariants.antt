-- The steps that are left lead where the whole path does.
use Rattle.std.proofs.Common.{length}
use Rattle.jsonb_functions.specs.PlaceWalks.{LeadsOn}
use Rattle.jsonb_functions.proofs.selection.after_filters.Given as goal

abbrev pub invariant-loop-left : goal.invariant-loop-left
invariant-loop-left l = LeadsOn l.fn.path l.left l.bytes l.fn.place

abbrev pub decreases-loop-left : goal.decreases-loop-left
decreases-loop-left l = length l.left
