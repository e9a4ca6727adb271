use Rattle.std.proofs.Common.{ap, sym, ◌∙◌}
use Rattle.std.specs.Prelude.{◌||◌}
use Rattle.std.specs.List.{list_any}
use Rattle.jsonb_value.specs.Tree.{text}
use Rattle.jsonb_value.specs.Value.{trees_of}
use Rattle.jsonb.specs.EntryTrees.{rest_trees}
use Rattle.jsonb.specs.Node.{node_tree}
use Rattle.jsonb_functions.specs.Contains.{contained, some_tree}
use Rattle.jsonb_functions.proofs.KeyTestLaws.{text_end, text_step}
use Rattle.jsonb_functions.proofs.key_tests.has_named_text.Goals as goal

pub loop-item-preserved : goal.loop-item-preserved
loop-item-preserved c =
    let later = list_any (λ name. some_tree (λ t. contained (text name.now) t)
    (trees_of (rest_trees c.next_item.new.items))) c.args.names.now in
    c.loop-item.invariant
    ∙ text_step c.args.names.now (rest_trees c.loop-item.items)
    (rest_trees c.next_item.new.items) (node_tree c.in-Some.item) c.in-Some.ensures.steps
    ∙ ap (λ b. b || later) (sym c.is_named_text.ensures ∙ c.if-is_named_text.false)

pub returns-then-is_named_text : goal.returns-then-is_named_text
returns-then-is_named_text c =
    let later = list_any (λ name. some_tree (λ t. contained (text name.now) t)
    (trees_of (rest_trees c.next_item.new.items))) c.args.names.now in
    sym (c.loop-item.invariant
    ∙ text_step c.args.names.now (rest_trees c.loop-item.items)
    (rest_trees c.next_item.new.items) (node_tree c.in-Some.item) c.in-Some.ensures.steps
    ∙ ap (λ b. b || later) (sym c.is_named_text.ensures ∙ c.if-is_named_text.true))

pub returns : goal.returns
returns c =
    text_end c.args.names.now (rest_trees c.loop-item.items) c.in_default.ensures.steps.0
    ∙ sym c.loop-item.invariant
