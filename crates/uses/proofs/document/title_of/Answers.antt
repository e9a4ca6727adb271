use Rattle.std.proofs.Common.{Some, ap, sym, ◌∙◌, ◌∷◌, []}
use Rattle.jsonb.specs.Node.{node_tree, value_of_key}
use Rattle.jsonb.proofs.DocumentLaws.{tree_of_bytes}
use Rattle.jsonb_codec.proofs.Unique.{Doc-unique}
use Rattle.uses.proofs.document.title_of.Goals as goal

pub returns-in-String : goal.returns-in-String
returns-in-String c = λ t h.
    let d = c.in_ok-within.field-0 in
    let one = Doc-unique c.args.bytes.now _ t
    (tree_of_bytes c.args.bytes.now d c.in_ok-within.ensures.bytes) h in
    sym (ap (value_of_key (116 ∷ 105 ∷ 116 ∷ 108 ∷ 101 ∷ [])) one) ∙ sym c.in_ok-title.ensures.value
    ∙ ap (λ node. Some (node_tree node)) c.in-String.is
