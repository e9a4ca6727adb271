-- The steps so far come before those of the names that are left, from where the steps lead.
use Rattle.std.proofs.Common.{◌≡◌, ◌++◌, drop, map}
use Rattle.std.specs.Prelude.{Some, option_map, string_bytes}
use Rattle.jsonb.specs.Document.{document_tree}
use Rattle.jsonb.specs.Node.{node_tree}
use Rattle.jsonb_functions.specs.NamedSteps.{steps_by}
use Rattle.jsonb_functions.specs.StoredPath.{step_view}
use Rattle.jsonb_functions.proofs.names.steps_of_names.Given as goal

abbrev pub invariant-loop-name : goal.invariant-loop-name
invariant-loop-name l =
    steps_by (map string_bytes l.fn.names) (Some (document_tree l.fn.document))
    ≡ map step_view l.steps.items
    ++ steps_by (map string_bytes (drop l.name-index l.fn.names)) (option_map node_tree l.place)
