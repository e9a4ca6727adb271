use Rattle.std.proofs.Common.{ap, sym, ◌∙◌}
use Rattle.std.specs.Prelude.{◌&&◌, not}
use Rattle.jsonb.specs.Document.{document_tree}
use Rattle.jsonb.specs.EntryTrees.{rest_pairs, rest_trees}
use Rattle.jsonb_functions.specs.KeyTests.{has_name}
use Rattle.jsonb_functions.proofs.KeyTestLaws.{top_of_array, top_of_object}
use Rattle.jsonb_functions.proofs.key_tests.remove_keys.Goals as goal

pub returns-in-Some : goal.returns-in-Some
returns-in-Some c name =
    c.remove_texts.ensures name
    ∙ ap (λ b. has_name c.args.missing.now name && not b)
    (sym (top_of_array (document_tree c.args.document) (rest_trees c.in-Some.items)
    c.in-Some.ensures name.now))

pub returns-in-Some-members : goal.returns-in-Some-members
returns-in-Some-members c name =
    c.remove_names.ensures name
    ∙ ap (λ b. has_name c.args.missing.now name && not b)
    (sym (top_of_object (document_tree c.args.document) (rest_pairs c.in-Some-members.members)
    c.in-Some-members.ensures name.now))
