use Rattle.std.proofs.Common.{ap, sym, ◌∙◌}
use Rattle.std.proofs.lemmas.Result.{IfOk-weaker}
use Rattle.jsonb_value.specs.Tree.{no_trees, tree}
use Rattle.jsonb.specs.Document.{document_tree}
use Rattle.jsonb_functions.specs.ChosenSource.{listed_trees}
use Rattle.jsonb_functions.specs.Joined.{items_or_one}
use Rattle.jsonb_functions.proofs.ArraySetLaws.{one_object, one_or_items}
use Rattle.jsonb_functions.proofs.EditLaws.{part_tree_of}
use Rattle.jsonb_functions.proofs.array_sets.items_of.Goals as goal

pub returns-then-part-ne-CONTAINER_TAG :
    goal.returns-then-part-ne-CONTAINER_TAG
returns-then-part-ne-CONTAINER_TAG c =
    let t = document_tree c.args.document in
    let means = c.part-part.ensures.means in
    IfOk-weaker c.one_item.result _ _
    (λ list e. ap listed_trees e
    ∙ ap (λ u. tree u no_trees) (part_tree_of c.part-part.result t means)
    ∙ sym (one_or_items t (λ f. c.if-part-ne-CONTAINER_TAG.true (sym means.0 ∙ f))))
    c.one_item.ensures

pub returns-in-Array : goal.returns-in-Array
returns-in-Array c =
    let t = document_tree c.args.document in
    let (ts, (is, are)) = c.in-Array.ensures.contents t c.part-part.ensures.means in
    IfOk-weaker c.all_items.result _ _ (λ list h. h ts are ∙ sym (ap items_or_one is))
    c.all_items.ensures

pub returns-in-Object : goal.returns-in-Object
returns-in-Object c =
    let t = document_tree c.args.document in
    let (ps, (is, are)) = c.in-Object.ensures.contents t c.part-part.ensures.means in
    IfOk-weaker c.one_item-in-Object.result _ _
    (λ list e. ap listed_trees e
    ∙ ap (λ u. tree u no_trees) (part_tree_of c.part-part.result t c.part-part.ensures.means)
    ∙ sym (one_object t ps is))
    c.one_item-in-Object.ensures
