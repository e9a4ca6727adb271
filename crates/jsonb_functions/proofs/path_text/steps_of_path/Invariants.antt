-- The steps so far come before those of what is left.
use Rattle.std.proofs.Common.{◌≡◌, length, map}
use Rattle.jsonb_functions.specs.PathText.{selector_view, single_steps}
use Rattle.jsonb_functions.specs.StoredPath.{step_view}
use Rattle.jsonb_functions.proofs.StoredPathLaws.{steps_then}
use Rattle.jsonb_functions.proofs.path_text.steps_of_path.Given as goal

abbrev pub invariant-loop-left : goal.invariant-loop-left
invariant-loop-left l =
    single_steps (map selector_view l.fn.path)
    ≡ steps_then (map step_view l.steps.items) (single_steps (map selector_view l.left))

abbrev pub decreases-loop-left : goal.decreases-loop-left
decreases-loop-left l = length l.left
