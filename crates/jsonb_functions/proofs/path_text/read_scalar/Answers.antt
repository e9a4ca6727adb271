use Rattle.jsonb_value.specs.Value.{tree_of}
use Rattle.jsonb_functions.proofs.FilterTextLaws.{scalar_found, scalar_refused}
use Rattle.jsonb_functions.proofs.path_text.read_scalar.Goals as goal

pub returns-in-Ok : goal.returns-in-Ok
returns-in-Ok c =
    scalar_found c.args.word.now (tree_of c.in-Ok.value) c.scalar_node.result c.in-Ok.ensures.ok
    c.scalar_node.ensures

pub returns-in-Err-InvalidJson : goal.returns-in-Err-InvalidJson
returns-in-Err-InvalidJson c =
    scalar_refused c.args.word.now
    (c.in-Err-InvalidJson.ensures.invalid (cc (c.in-Err-InvalidJson.field-0-is)))
