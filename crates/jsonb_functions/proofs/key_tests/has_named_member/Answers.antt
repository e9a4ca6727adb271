use Rattle.std.proofs.Common.{ap, sym, ◌∙◌}
use Rattle.std.specs.Prelude.{◌||◌}
use Rattle.std.specs.List.{list_any}
use Rattle.jsonb.specs.EntryTrees.{rest_pairs}
use Rattle.jsonb.specs.Node.{node_tree, object_of, value_of_key}
use Rattle.jsonb_functions.specs.Contains.{is_there}
use Rattle.jsonb_functions.proofs.KeyTestLaws.{member_end, member_step}
use Rattle.jsonb_functions.proofs.key_tests.has_named_member.Goals as goal

pub loop-key-preserved : goal.loop-key-preserved
loop-key-preserved c =
    let later = list_any (λ name. is_there (value_of_key name.now
    (object_of (rest_pairs c.next_member.new.members)))) c.args.names.now in
    c.loop-key.invariant
    ∙ member_step c.args.names.now (rest_pairs c.loop-key.members)
    (rest_pairs c.next_member.new.members) c.in-Some.key.now (node_tree c.in-Some.field-0-1)
    c.in-Some.ensures.steps
    ∙ ap (λ b. b || later) (sym c.is_named.ensures ∙ c.if-is_named.false)

pub returns-then-is_named : goal.returns-then-is_named
returns-then-is_named c =
    let later = list_any (λ name. is_there (value_of_key name.now
    (object_of (rest_pairs c.next_member.new.members)))) c.args.names.now in
    sym (c.loop-key.invariant
    ∙ member_step c.args.names.now (rest_pairs c.loop-key.members)
    (rest_pairs c.next_member.new.members) c.in-Some.key.now (node_tree c.in-Some.field-0-1)
    c.in-Some.ensures.steps
    ∙ ap (λ b. b || later) (sym c.is_named.ensures ∙ c.if-is_named.true))

pub returns : goal.returns
returns c =
    member_end c.args.names.now (rest_pairs c.loop-key.members) c.in_default.ensures.steps.0
    ∙ sym c.loop-key.invariant
