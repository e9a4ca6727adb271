use Rattle.std.proofs.Common.{map, sym, ap, ◌∙◌}
use Rattle.jsonb_value.specs.Value.{trees_of}
use Rattle.jsonb.specs.Document.{document_tree}
use Rattle.jsonb.specs.EntryTrees.{rest_trees}
use Rattle.jsonb_functions.specs.StoredPath.{step_view, steps_in}
use Rattle.jsonb_functions.proofs.StoredPathLaws.{first_steps, steps_on, steps_then}
use Rattle.jsonb_comparable.proofs.WalkLaws.{array_items}
use Rattle.jsonb_functions.proofs.stored_path.read_path.Goals as goal

pub loop-item-init : goal.loop-item-init
loop-item-init c =
    let ts = rest_trees c.in-Some.items in
    first_steps (document_tree c.args.document) ts
    (array_items (document_tree c.args.document) ts c.in-Some.ensures)
    ∙ ap (λ x. steps_then (map step_view x) (steps_in (trees_of ts)))
    (sym c.in_ok-steps.ensures.items)

pub loop-item-preserved : goal.loop-item-preserved
loop-item-preserved c =
    steps_on (rest_trees c.loop-item.items) (rest_trees c.next_item.new.items) _
    c.in-Some-step_of.step c.loop-item.steps.items c.push.new.self.items _
    c.in-Some-next_item.ensures.steps c.in-Some-step_of.ensures c.in_ok-push.ensures.items
    c.loop-item.invariant
