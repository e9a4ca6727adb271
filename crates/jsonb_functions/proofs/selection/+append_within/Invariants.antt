-- After what was appended come the places to which those lead that are left, each of which holds a
-- tree, and after what was taken the steps for these.
use Rattle.std.proofs.Common.{◌≡◌, ◌++◌, ◌+◌, flat_map, length}
use Rattle.std.specs.List.{sum_by}
use Rattle.jsonb_functions.specs.PathPlaces.{selected_from, tree_there}
use Rattle.jsonb_functions.specs.PlaceWalks.{AreAllParts, walk_places}
use Rattle.jsonb_functions.specs.Selected.{indexes_of}
use Rattle.jsonb_functions.specs.SelectSteps.{select_steps}
use Rattle.jsonb_functions.proofs.selection.+append_within.Given as goal

abbrev pub decreases-append_within : goal.decreases-append_within
decreases-append_within l = length l.path.now

abbrev pub invariant-loop-next : goal.invariant-loop-next
invariant-loop-next l = record {
  appended : l.found.items ++ flat_map (λ next. selected_from l.rest l.bytes next)
      (walk_places (indexes_of l.selector) l.bytes l.place l.walk)
      ≡ l.fn.found.items ++ selected_from l.fn.path l.bytes l.place;
  taken : l.fn.steps + sum_by (λ next. select_steps l.rest (tree_there l.bytes next))
      (walk_places (indexes_of l.selector) l.bytes l.place l.walk)
      ≡ l.steps + select_steps l.fn.path (tree_there l.bytes l.place);
  parts : AreAllParts l.bytes (walk_places (indexes_of l.selector) l.bytes l.place l.walk);
}

abbrev pub decreases-loop-next : goal.decreases-loop-next
decreases-loop-next l = length (walk_places (indexes_of l.selector) l.bytes l.place l.walk)
