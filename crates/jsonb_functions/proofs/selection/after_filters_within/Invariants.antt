-- The steps that are left lead where the whole path does, and take what is not taken of it.
use Rattle.std.proofs.Common.{◌≡◌, ◌+◌, length}
use Rattle.jsonb_functions.specs.PathPlaces.{tree_there}
use Rattle.jsonb_functions.specs.PlaceWalks.{LeadsOn}
use Rattle.jsonb_functions.specs.SelectSteps.{select_steps}
use Rattle.jsonb_functions.proofs.selection.after_filters_within.Given as goal

abbrev pub invariant-loop-left : goal.invariant-loop-left
invariant-loop-left l = record {
  leads : LeadsOn l.fn.path l.left l.bytes l.fn.place;
  taken : l.fn.steps + select_steps l.left (tree_there l.bytes l.fn.place)
      ≡ l.steps + select_steps l.fn.path (tree_there l.bytes l.fn.place);
}

abbrev pub decreases-loop-left : goal.decreases-loop-left
decreases-loop-left l = length l.left
