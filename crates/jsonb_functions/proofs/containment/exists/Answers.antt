use Rattle.std.proofs.Common.{◌∙◌, sym}
use Rattle.jsonb.specs.Document.{document_tree}
use Rattle.jsonb.specs.EntryTrees.{rest_trees}
use Rattle.jsonb_comparable.proofs.WalkLaws.{array_items}
use Rattle.jsonb_functions.proofs.WalkLaws.{top_key_of_items}
use Rattle.jsonb_functions.proofs.containment.exists.Goals as goal

pub returns-in-Some : goal.returns-in-Some
returns-in-Some c =
    let ts = rest_trees c.in-Some.items in
    let whole = array_items (document_tree c.args.document) ts c.in-Some.ensures in
    c.has_text.ensures ∙ sym (top_key_of_items c.args.key.now
    (document_tree c.args.document) ts whole)
