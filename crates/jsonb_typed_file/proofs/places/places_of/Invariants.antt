-- The places so far are those of the columns that were passed.
use Rattle.std.proofs.Common.{length}
use Rattle.jsonb_typed_file.proofs.PlaceLaws.{PlacedSoFar}
use Rattle.jsonb_typed_file.proofs.places.places_of.Given as goal

abbrev pub invariant-loop-left : goal.invariant-loop-left
invariant-loop-left l = PlacedSoFar l.columns l.left l.rows l.fn.start l.start l.places.items

abbrev pub decreases-loop-left : goal.decreases-loop-left
decreases-loop-left l = length l.left
