-- What was taken, and what the terms that are left take, is what all take.
use Rattle.std.proofs.Common.{◌≡◌, ◌+◌, length}
use Rattle.std.specs.List.{sum_by}
use Rattle.jsonb.specs.Node.{node_tree}
use Rattle.jsonb_functions.specs.SelectSteps.{term_steps}
use Rattle.jsonb_functions.proofs.selection.ask_terms.Given as goal

abbrev pub invariant-loop-left : goal.invariant-loop-left
invariant-loop-left l =
    l.fn.steps + sum_by (λ term. term_steps term (node_tree l.fn.node)) l.left
    ≡ l.steps + sum_by (λ term. term_steps term (node_tree l.fn.node)) l.fn.terms

abbrev pub decreases-loop-left : goal.decreases-loop-left
decreases-loop-left l = length l.left
