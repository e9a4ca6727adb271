use Rattle.std.proofs.Common.{sym, ◌∙◌}
use Rattle.jsonb_value.specs.Tree.{text}
use Rattle.jsonb_value.specs.Value.{trees_of}
use Rattle.jsonb.specs.Document.{document_tree}
use Rattle.jsonb.specs.EntryTrees.{rest_pairs, rest_trees}
use Rattle.jsonb.specs.Node.{object_of, value_of_key}
use Rattle.jsonb_functions.specs.Contains.{contained, has_top_key, is_there, some_tree}
use Rattle.jsonb_functions.proofs.KeyTestLaws.{any_same, top_of_array, top_of_object}
use Rattle.jsonb_functions.proofs.key_tests.has_named.Goals as goal

pub returns-in-Some : goal.returns-in-Some
returns-in-Some c =
    let t = document_tree c.args.document in
    let ts = rest_trees c.in-Some.items in
    c.has_named_text.ensures
    ∙ sym (any_same (λ name. has_top_key name.now t)
    (λ name. some_tree (λ u. contained (text name.now) u) (trees_of ts))
    (λ name. top_of_array t ts c.in-Some.ensures name.now) c.args.names.now)

pub returns-in-Some-members : goal.returns-in-Some-members
returns-in-Some-members c =
    let t = document_tree c.args.document in
    let ps = rest_pairs c.in-Some-members.members in
    c.has_named_member.ensures
    ∙ sym (any_same (λ name. has_top_key name.now t)
    (λ name. is_there (value_of_key name.now (object_of ps)))
    (λ name. top_of_object t ps c.in-Some-members.ensures name.now) c.args.names.now)
