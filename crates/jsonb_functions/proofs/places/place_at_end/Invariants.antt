-- The steps that are left lead from here to the end of the path.
use Rattle.std.proofs.Common.{◌≡◌, length}
use Rattle.jsonb_functions.specs.PathPlaces.{IsPlaceWithin, place_from}
use Rattle.jsonb_functions.proofs.places.place_at_end.Given as goal

abbrev pub invariant-loop-left : goal.invariant-loop-left
invariant-loop-left l = record {
  inside : IsPlaceWithin l.bytes l.place;
  leads : place_from l.left l.bytes l.place ≡ place_from l.fn.path l.bytes l.fn.from;
}

abbrev pub decreases-loop-left : goal.decreases-loop-left
decreases-loop-left l = length l.left
