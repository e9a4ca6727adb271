use Rattle.std.proofs.Common.{ap, sym, ◌∙◌}
use Rattle.std.specs.Prelude.{◌&&◌, not}
use Rattle.std.specs.Ordering.{is_eq, nat_cmp}
use Rattle.std.specs.Cmp.Lexicographic.{slice_cmp}
use Rattle.jsonb.specs.EntryTrees.{rest_pairs}
use Rattle.jsonb.specs.Node.{node_tree, object_of, value_of_key}
use Rattle.jsonb_functions.specs.Contains.{is_there}
use Rattle.jsonb_functions.specs.KeyTests.{has_name}
use Rattle.jsonb_functions.proofs.KeyTestLaws.{removed_one, removed_twice, there_first}
use Rattle.jsonb_functions.proofs.key_tests.remove_names.Goals as goal

pub loop-key-preserved : goal.loop-key-preserved
loop-key-preserved c name =
    let had = has_name c.loop-key.missing name in
    let key = c.in-Some.key.now in
    let others = rest_pairs c.next_member.new.members in
    let later = is_there (value_of_key name.now (object_of others)) in
    ap (λ b. b && not later) (c.remove.ensures.updates.0 name
    ∙ removed_one had (is_eq (slice_cmp nat_cmp key name.now)))
    ∙ removed_twice had (is_eq (slice_cmp nat_cmp key name.now)) later
    ∙ ap (λ b. had && not b) (sym (there_first name.now (rest_pairs c.loop-key.members) others key
    (node_tree c.in-Some.field-0-1) c.in-Some.ensures.steps))
    ∙ c.loop-key.invariant name
