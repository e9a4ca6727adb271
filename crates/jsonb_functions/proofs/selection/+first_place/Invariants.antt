-- The first place to which the path leads is the first one to which those lead that are left, each
-- of which holds a tree.
use Rattle.std.proofs.Common.{◌≡◌, flat_map, length}
use Rattle.jsonb_functions.specs.PathPlaces.{first_entry, selected_from}
use Rattle.jsonb_functions.specs.PlaceWalks.{AreAllParts, walk_places}
use Rattle.jsonb_functions.specs.Selected.{indexes_of}
use Rattle.jsonb_functions.proofs.selection.+first_place.Given as goal

abbrev pub decreases-first_place : goal.decreases-first_place
decreases-first_place l = length l.path.now

abbrev pub invariant-loop-next : goal.invariant-loop-next
invariant-loop-next l = record {
  first : first_entry (flat_map (λ next. selected_from l.rest l.bytes next)
      (walk_places (indexes_of l.selector) l.bytes l.place l.walk))
      ≡ first_entry (selected_from l.fn.path l.bytes l.place);
  parts : AreAllParts l.bytes (walk_places (indexes_of l.selector) l.bytes l.place l.walk);
}

abbrev pub decreases-loop-next : goal.decreases-loop-next
decreases-loop-next l = length (walk_places (indexes_of l.selector) l.bytes l.place l.walk)
