use Rattle.std.proofs.Common.{◌++◌, ap, ◌∙◌}
use Rattle.std.proofs.lemmas.Result.{on_ok_weaker}
use Rattle.jsonb.specs.Document.{document_tree}
use Rattle.jsonb.specs.EntryTrees.{rest_trees, rest_pairs}
use Rattle.jsonb_functions.proofs.TopKeyLaws.{array_top, object_top}
use Rattle.jsonb_comparable.proofs.WalkLaws.{array_items, object_members}
use Rattle.jsonb_functions.proofs.top_keys.append_keys.Goals as goal

pub returns-in-Some-clause-appended : goal.returns-in-Some-clause-appended
returns-in-Some-clause-appended c =
    let tree = document_tree c.args.document in
    let ts = rest_trees c.in-Some.items in
    on_ok_weaker c.append_texts.result (λ known. known
    ∙ ap (λ x. c.args.out.now.items ++ x)
    (array_top tree ts (array_items tree ts c.in-Some.ensures))) c.append_texts.ensures.appended

pub returns-in-Some-members-clause-appended : goal.returns-in-Some-members-clause-appended
returns-in-Some-members-clause-appended c =
    let tree = document_tree c.args.document in
    let ps = rest_pairs c.in-Some-members.members in
    on_ok_weaker c.append_names.result (λ known. known
    ∙ ap (λ x. c.args.out.now.items ++ x)
    (object_top tree ps (object_members tree ps c.in-Some-members.ensures)))
    c.append_names.ensures.appended
