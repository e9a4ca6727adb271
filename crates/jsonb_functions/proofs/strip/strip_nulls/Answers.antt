use Rattle.jsonb_codec.specs.Canon.{shape_of}
use Rattle.jsonb.specs.Document.{document_tree}
use Rattle.jsonb_functions.specs.Stripped.{stripped}
use Rattle.jsonb_functions.proofs.strip.strip_nulls.Goals as goal

pub append_document-requires : goal.append_document-requires
append_document-requires c =
    let t = document_tree c.args.document in
    (shape_of (stripped t), c.stripped_level.ensures.is t c.part.ensures.means)
