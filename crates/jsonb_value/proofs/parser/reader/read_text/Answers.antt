use Rattle.std.proofs.Common.{arith}
use Rattle.jsonb_value.specs.declared.text_depth.ScanState.TheVariants.{Outside}
use Rattle.jsonb_value.proofs.Json.ValueSteps.{all_sure}
use Rattle.jsonb_value.proofs.ScanLaws.{level_most}
use Rattle.jsonb_value.proofs.parser.reader.read_text.Goals as goal

pub returns-clause-err : goal.returns-clause-err
returns-clause-err g c =
    all_sure _ _ _
    (omega (arith, level_most Outside 0 c.args.text.now))
    c.read_text_within.ensures.err
