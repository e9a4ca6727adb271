-- The positions that are left are those that the indexes had to give.
use Rattle.std.proofs.Common.{◌≡◌, ◌-◌, drop, length}
use Rattle.jsonb_functions.specs.PathPlaces.{listed_places}
use Rattle.jsonb_functions.proofs.places.next_listed.Given as goal

abbrev pub invariant-loop-index : goal.invariant-loop-index
invariant-loop-index l =
    listed_places l.bytes l.place (drop l.passed l.indexes)
    ≡ listed_places l.fn.bytes l.fn.place (drop l.fn.passed l.fn.indexes)

abbrev pub decreases-loop-index : goal.decreases-loop-index
decreases-loop-index l = length l.indexes - l.passed
