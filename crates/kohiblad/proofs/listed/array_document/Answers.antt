use Rattle.jsonb_value.specs.Tree.{array}
use Rattle.jsonb_codec.specs.Canon.{shape_of}
use Rattle.kohiblad.specs.ListedSource.{listed_trees}
use Rattle.kohiblad.proofs.listed.array_document.Goals as goal

pub append_document-requires : goal.append_document-requires
append_document-requires c =
    (shape_of (array (listed_trees c.args.values.now)), c.listed_level.ensures)
