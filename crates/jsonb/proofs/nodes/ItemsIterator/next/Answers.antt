use Rattle.std.proofs.Common.{◌∷◌, ap, ◌∙◌}
use Rattle.jsonb.specs.EntryTrees.{rest_trees}
use Rattle.jsonb.proofs.EntryTreeLaws.{entry_tree-node}
use Rattle.jsonb.proofs.nodes.ItemsIterator.next.Goals as goal

pub returns-clause-steps : goal.returns-clause-steps
returns-clause-steps c =
    c.in_ok-part.ensures
    ∙ ap (λ t. t ∷ rest_trees c.next_part.new.self)
    (entry_tree-node c.in_ok-part.part c.of_part.result c.of_part.ensures.means)
