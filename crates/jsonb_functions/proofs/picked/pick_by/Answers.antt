use Rattle.jsonb_codec.specs.Canon.{shape_of}
use Rattle.jsonb.specs.Document.{document_tree}
use Rattle.jsonb_functions.specs.Picked.{picked}
use Rattle.jsonb_functions.proofs.picked.pick_by.Goals as goal

pub append_document-requires : goal.append_document-requires
append_document-requires c =
    let t = document_tree c.args.document in (
      shape_of (picked c.args.choice.names.now c.args.choice.which t),
      c.picked_level.ensures t c.part.ensures.means,
    )
