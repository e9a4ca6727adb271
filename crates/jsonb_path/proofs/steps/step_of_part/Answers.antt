use Rattle.std.proofs.Common.{◌∙◌, ap, sym, take}
use Rattle.jsonb_path.specs.PathTree.{as_expression, node_of, nodes_of}
use Rattle.jsonb_path.specs.Steps.{step_of_both, step_of_index}
use Rattle.jsonb_path.proofs.steps.step_of_part.Goals as goal

pub returns-in-Arithmetic : goal.returns-in-Arithmetic
returns-in-Arithmetic c =
    let ps = c.args.parts.now in
    c.step_of_both.ensures (nodes_of (take c.in-Arithmetic.left ps))
    (nodes_of (take c.in-Arithmetic.right ps))
    ∙ (λ i. step_of_both c.in-Arithmetic.operator (c.source_at-left.ensures i)
    (c.source_at-right.ensures i))
    ∙ ap (λ x. step_of_index (as_expression (node_of (nodes_of ps) x))) (sym c.in-Arithmetic.is)
