use Rattle.std.proofs.Common.{chars, ◌∙◌}
use Rattle.jsonb_value.specs.Value.{tree_of}
use Rattle.jsonb_path.proofs.NumeralLaws.{no_number, number_read}
use Rattle.jsonb_path.proofs.read.literal.read_json_number.Goals as goal

pub returns-in-Ok : goal.returns-in-Ok
returns-in-Ok c =
    c.number_of_value.ensures
    ∙ number_read (chars c.args.text.now) (tree_of c.in-Ok.value) c.in-Ok.ensures.ok

pub returns-in-Err-InvalidJson : goal.returns-in-Err-InvalidJson
returns-in-Err-InvalidJson c =
    no_number (chars c.args.text.now)
    (c.in-Err-InvalidJson.ensures.invalid (cc (c.in-Err-InvalidJson.field-0-is)))
