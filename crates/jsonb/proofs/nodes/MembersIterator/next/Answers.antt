use Rattle.std.proofs.Common.{◌∷◌, ap, ◌∙◌}
use Rattle.jsonb.specs.EntryTrees.{rest_pairs}
use Rattle.jsonb.proofs.EntryTreeLaws.{entry_tree-node}
use Rattle.jsonb.proofs.nodes.MembersIterator.next.Goals as goal

pub returns-clause-steps : goal.returns-clause-steps
returns-clause-steps c =
    c.in_ok-key.ensures
    ∙ ap (λ t. (c.in_ok-key.key.now, t) ∷ rest_pairs c.next_parts.new.self)
    (entry_tree-node c.in_ok-key.value c.of_part.result c.of_part.ensures.means)
