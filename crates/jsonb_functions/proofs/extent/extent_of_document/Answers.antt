use Rattle.std.proofs.Common.{length, ap, ◌∙◌}
use Rattle.jsonb.specs.Document.{document_tree}
use Rattle.jsonb.specs.EntryTrees.{rest_pairs, rest_trees}
use Rattle.jsonb_functions.specs.SelectSteps.{extent}
use Rattle.jsonb_functions.proofs.SelectStepLaws.{extent_of_items, extent_of_members}
use Rattle.jsonb_functions.proofs.extent.extent_of_document.Goals as goal

pub returns-in-Some-Array : goal.returns-in-Some-Array
returns-in-Some-Array c =
    c.len.ensures ∙ ap (λ items. length (rest_trees items)) c.in-Some-Array.items-is
    ∙ extent_of_items (rest_trees c.in-Some-Array.items) (document_tree c.args.document)
    (rw c.in-Some-Array.field-0-is at c.in-Some-Array.ensures.tree)

pub returns-in-Some-Object : goal.returns-in-Some-Object
returns-in-Some-Object c =
    c.len-in-Some-Object.ensures
    ∙ ap (λ members. length (rest_pairs members)) c.in-Some-Object.members-is
    ∙ extent_of_members (rest_pairs c.in-Some-Object.members) (document_tree c.args.document)
    (rw c.in-Some-Object.field-0-is at c.in-Some-Object.ensures.tree)

pub returns-in-None : goal.returns-in-None
returns-in-None c =
    c.extent_of_scalar.ensures c.value.ensures.container
    (rw c.value.ensures.tree c.in-None.ensures.tree)
    ∙ ap extent c.value.ensures.tree
