-- After what was appended come the places to which those lead that are left, each of which holds a
-- tree.
use Rattle.std.proofs.Common.{◌≡◌, ◌++◌, flat_map, length}
use Rattle.jsonb_functions.specs.PathPlaces.{selected_from}
use Rattle.jsonb_functions.specs.PlaceWalks.{AreAllParts, walk_places}
use Rattle.jsonb_functions.specs.Selected.{indexes_of}
use Rattle.jsonb_functions.proofs.selection.+append_places.Given as goal

abbrev pub decreases-append_places : goal.decreases-append_places
decreases-append_places l = length l.path.now

abbrev pub invariant-loop-next : goal.invariant-loop-next
invariant-loop-next l = record {
  appended : l.found.items ++ flat_map (λ next. selected_from l.rest l.bytes next)
      (walk_places (indexes_of l.selector) l.bytes l.place l.walk)
      ≡ l.fn.found.items ++ selected_from l.fn.path l.bytes l.place;
  parts : AreAllParts l.bytes (walk_places (indexes_of l.selector) l.bytes l.place l.walk);
}

abbrev pub decreases-loop-next : goal.decreases-loop-next
decreases-loop-next l = length (walk_places (indexes_of l.selector) l.bytes l.place l.walk)
