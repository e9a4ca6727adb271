use Rattle.jsonb_value.specs.Tree.{array}
use Rattle.jsonb_codec.specs.Canon.{shape_of}
use Rattle.jsonb_functions.specs.ChosenSource.{listed_trees}
use Rattle.jsonb_functions.proofs.array_sets.array_document.Goals as goal

pub append_document-requires : goal.append_document-requires
append_document-requires c =
    (shape_of (array (listed_trees c.args.parts.now)), c.listed_level.ensures)
