use Rattle.std.proofs.Common.{ap, subst, ◌∙◌}
use Rattle.jsonb.specs.Document.{document_tree}
use Rattle.jsonb_functions.specs.ArraySets.{some_shared}
use Rattle.jsonb_functions.specs.ChosenSource.{listed_trees}
use Rattle.jsonb_functions.specs.ItemCounts.{CountsEquals}
use Rattle.jsonb_functions.specs.Joined.{items_or_one}
use Rattle.jsonb_functions.proofs.array_sets.array_overlap.Goals as goal

pub returns-clause-ok : goal.returns-clause-ok
returns-clause-ok c =
    let us = items_or_one (document_tree c.args.right) in
    let counted : CountsEquals c.in_ok-counts.counts.entries us =
    subst (CountsEquals c.in_ok-counts.counts.entries)
    (ap listed_trees c.deref.ensures.value ∙ c.in_ok-others.ensures)
    c.in_ok-counts.ensures in
    c.has_shared.ensures us counted
    ∙ ap (λ ts. some_shared ts us)
    (ap listed_trees c.deref-2.ensures.value ∙ c.in_ok-items.ensures)
