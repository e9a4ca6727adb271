use Rattle.std.proofs.Common.{None, Some, ap, ◌∙◌}
use Rattle.jsonb.specs.Document.{document_bytes, document_tree}
use Rattle.jsonb_functions.proofs.PathPlaceLaws.{first_found}
use Rattle.jsonb_functions.proofs.selection.select_first.Goals as goal

pub returns-in-Some : goal.returns-in-Some
returns-in-Some c =
    ap Some c.node_at_place.ensures.tree
    ∙ first_found c.args.path.now c.as_bytes-bytes.result.now (document_bytes c.args.document)
    (document_tree c.args.document) c.whole_of.result (Some c.in-Some.place)
    c.as_bytes-bytes.ensures.bytes c.whole_of.ensures.part c.whole_of.ensures.tree
    c.in-Some.ensures.is

pub returns-in-None : goal.returns-in-None
returns-in-None c =
    first_found c.args.path.now c.as_bytes-bytes.result.now (document_bytes c.args.document)
    (document_tree c.args.document) c.whole_of.result None
    c.as_bytes-bytes.ensures.bytes c.whole_of.ensures.part c.whole_of.ensures.tree
    c.in-None.ensures.is
