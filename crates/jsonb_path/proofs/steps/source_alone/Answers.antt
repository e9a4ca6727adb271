use Rattle.std.proofs.Common.{◌≤◌, ◌∙◌, ap, length, subst, sym}
use Rattle.jsonb_path.specs.PathTree.{as_expression, node_of, primary_of}
use Rattle.jsonb_path.specs.Steps.{primary_alone}
use Rattle.jsonb_path.proofs.StepLaws.{not_alone}
use Rattle.jsonb_path.proofs.steps.source_alone.Goals as goal

pub returns-in-len1-up : goal.returns-in-len1-up
returns-in-len1-up c nodes =
    not_alone (primary_of nodes c.in-Chain.source) nodes c.in-Chain.accessors.items
    (subst (λ xs. 1 ≤ length xs) c.as_slice.ensures.value c.in-len1-up.len_at_least)
    ∙ ap (λ x. primary_alone (as_expression (node_of nodes x))) (sym c.in-Chain.is)
