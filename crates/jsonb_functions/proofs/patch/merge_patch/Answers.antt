use Rattle.jsonb_codec.specs.Canon.{shape_of}
use Rattle.jsonb.specs.Document.{document_tree}
use Rattle.jsonb_functions.specs.Patched.{patched}
use Rattle.jsonb_functions.proofs.patch.merge_patch.Goals as goal

pub append_document-requires : goal.append_document-requires
append_document-requires c =
    let t = document_tree c.args.target in
    let u = document_tree c.args.patch in (
      shape_of (patched t u),
      c.patched_level-level.ensures.is t u c.part.ensures.means c.part-2.ensures.means,
    )
