use Rattle.std.proofs.Common.{arith}
use Rattle.jsonb_value.specs.declared.text_depth.ScanState.TheVariants.{Outside}
use Rattle.jsonb_value.proofs.ScanLaws.{level_most}
use Rattle.jsonb_codec.proofs.tape.encode_text.Goals as goal

pub returns-clause-invalid : goal.returns-clause-invalid
returns-clause-invalid c = λ is.
    c.encode_to_depth.ensures.invalid is (omega (arith, level_most Outside 0 c.args.text.now))
