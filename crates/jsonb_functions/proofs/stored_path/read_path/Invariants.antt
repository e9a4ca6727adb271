-- The steps that were read come before those of the items that are left.
use Rattle.std.proofs.Common.{◌≡◌, length, map}
use Rattle.jsonb_value.specs.Value.{trees_of}
use Rattle.jsonb.specs.Document.{document_tree}
use Rattle.jsonb.specs.EntryTrees.{rest_trees}
use Rattle.jsonb_functions.specs.StoredPath.{step_view, steps_in, path_in}
use Rattle.jsonb_functions.proofs.StoredPathLaws.{steps_then}
use Rattle.jsonb_functions.proofs.stored_path.read_path.Given as goal

abbrev pub invariant-loop-item : goal.invariant-loop-item
invariant-loop-item l =
    path_in (document_tree l.fn.document)
    ≡ steps_then (map step_view l.steps.items) (steps_in (trees_of (rest_trees l.items)))

abbrev pub decreases-loop-item : goal.decreases-loop-item
decreases-loop-item l = length (rest_trees l.items)
