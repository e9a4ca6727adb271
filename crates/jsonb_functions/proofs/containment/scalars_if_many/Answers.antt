use Rattle.std.proofs.Common.{◌∙◌, rules, subst, sym}
use Rattle.jsonb.specs.Document.{document_tree}
use Rattle.jsonb.specs.EntryTrees.{rest_trees}
use Rattle.jsonb_value.specs.Value.{trees_of}
use Rattle.jsonb_comparable.proofs.WalkLaws.{array_items}
use Rattle.jsonb_functions.specs.Contains.{items_or_none}
use Rattle.jsonb_functions.specs.Scalars.{AreScalarsOf}
use Rattle.jsonb_functions.proofs.ContainLaws.{sort_ended, sorted_done}
use Rattle.jsonb_functions.proofs.ScalarLaws.{items_here}
use Rattle.jsonb_functions.proofs.containment.scalars_if_many.Goals as goal

pub returns-in_err-scalars-clause-cost : goal.returns-in_err-scalars-clause-cost
returns-in_err-scalars-clause-cost c =
    let whole = array_items (document_tree c.args.array) (rest_trees c.in-Some.items)
    c.in-Some.ensures in
    sort_ended _ c.in_err-scalars.field-0.0 (items_or_none (document_tree c.args.array))
    (trees_of (rest_trees c.in-Some.items)) _ c.args.steps.now _ (search rules)
    (sym c.are_many.ensures ∙ c.if-not-are_many.false)
    (items_here (document_tree c.args.array) (rest_trees c.in-Some.items) whole)
    c.in_err-scalars.ensures.cost

pub returns-clause-scalars : goal.returns-clause-scalars
returns-clause-scalars c =
    let whole = array_items (document_tree c.args.array) (rest_trees c.in-Some.items)
    c.in-Some.ensures in
    subst (λ ts. AreScalarsOf ts c.in_ok-scalars.scalars)
    (sym (items_here (document_tree c.args.array) (rest_trees c.in-Some.items) whole))
    c.in_ok-scalars.ensures.scalars

pub returns-clause-cost : goal.returns-clause-cost
returns-clause-cost c =
    let whole = array_items (document_tree c.args.array) (rest_trees c.in-Some.items)
    c.in-Some.ensures in
    sorted_done (items_or_none (document_tree c.args.array))
    (trees_of (rest_trees c.in-Some.items)) _ c.args.steps.now _
    (sym c.are_many.ensures ∙ c.if-not-are_many.false)
    (items_here (document_tree c.args.array) (rest_trees c.in-Some.items) whole)
    c.in_ok-scalars.ensures.cost
