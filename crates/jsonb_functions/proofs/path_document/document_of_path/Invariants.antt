-- The values so far give the steps so far.
use Rattle.std.proofs.Common.{◌≡◌, map, take}
use Rattle.jsonb_value.specs.Value.{tree_of}
use Rattle.jsonb_functions.specs.PathDocument.{step_tree}
use Rattle.jsonb_functions.specs.StoredPath.{step_view}
use Rattle.jsonb_functions.proofs.path_document.document_of_path.Given as goal

abbrev pub invariant-loop-step : goal.invariant-loop-step
invariant-loop-step l =
    map tree_of l.items.items ≡ map step_tree (map step_view (take l.step-index l.path))
