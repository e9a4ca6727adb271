use Rattle.std.proofs.Common.{sym}
use Rattle.jsonb.specs.Document.{document_bytes, document_tree}
use Rattle.jsonb.specs.Node.{node_view}
use Rattle.jsonb_functions.proofs.PathPlaceLaws.{whole_item}
use Rattle.jsonb_functions.proofs.found.whole_node.Goals as goal

pub returns-clause-item : goal.returns-clause-item
returns-clause-item c =
    let d = c.args.document in
    let place = c.whole_of.result in
    let bytes = c.as_bytes.ensures.bytes in
    whole_item (document_bytes d) (document_tree d) place (node_view c.node_at_place.result)
    (rw bytes at c.as_bytes.ensures.document) (sym c.whole_of.ensures.is)
    (rw bytes at c.node_at_place.ensures.item)
