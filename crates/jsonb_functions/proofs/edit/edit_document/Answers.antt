use Rattle.jsonb.specs.Document.{document_tree}
use Rattle.jsonb_functions.proofs.edit.edit_document.Goals as goal

pub append_document-requires : goal.append_document-requires
append_document-requires c =
    (_, c.whole_level.ensures (document_tree c.args.document) c.part.ensures.means)
