use Rattle.std.proofs.Common.{refl, sym, ◌∙◌}
use Rattle.std.specs.Prelude.{None, Some}
use Rattle.jsonb.specs.Node.{node_tree, node_view}
use Rattle.jsonb_functions.proofs.EditLaws.{path_split, later_steps}
use Rattle.jsonb_functions.proofs.FoundLaws.{step_found, step_lost, found_here}
use Rattle.jsonb_functions.proofs.FoundLaws.{found_on, found_nowhere, found_item}
use Rattle.jsonb_functions.proofs.found.node_at.Goals as goal

pub returns-in_err-node-clause-value : goal.returns-in_err-node-clause-value
returns-in_err-node-clause-value c =
    let left = c.loop-left.left.now in
    rw c.from_residual.ensures (sym (c.loop-left.invariant.value
    ∙ step_lost left (later_steps left) _ (node_tree c.loop-left.node)
    (path_split left _ _ c.in-len1-up.len_at_least refl) c.in_err-node.ensures.value))

pub returns-in_err-node-clause-entry : goal.returns-in_err-node-clause-entry
returns-in_err-node-clause-entry c =
    let left = c.loop-left.left.now in
    rw c.from_residual.ensures (c.loop-left.invariant.entry None
    (found_nowhere left (later_steps left) _ (node_view c.loop-left.node)
    (path_split left _ _ c.in-len1-up.len_at_least refl) c.in_err-node.ensures.entry))

pub loop-left-preserved : goal.loop-left-preserved
loop-left-preserved c =
    let left = c.loop-left.left.now in
    let split = path_split left _ _ c.in-len1-up.len_at_least refl in record {
      value = c.loop-left.invariant.value
          ∙ step_found left (later_steps left) _ (node_tree c.loop-left.node)
          (node_tree c.in_ok-node.node) split c.in_ok-node.ensures.value;
      entry = λ found h. c.loop-left.invariant.entry found
          (found_on left (later_steps left) _ (node_view c.loop-left.node)
          (node_view c.in_ok-node.node) found split c.in_ok-node.ensures.entry h);
    }

pub returns-clause-value : goal.returns-clause-value
returns-clause-value c =
    sym (c.loop-left.invariant.value
    ∙ found_here c.loop-left.left.now (node_tree c.loop-left.node) c.in_default.len_below)

pub returns-clause-entry : goal.returns-clause-entry
returns-clause-entry c =
    c.loop-left.invariant.entry (Some (node_view c.loop-left.node))
    (found_item c.loop-left.left.now (node_view c.loop-left.node) c.in_default.len_below)
