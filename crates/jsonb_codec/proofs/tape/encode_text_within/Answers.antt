use Rattle.std.proofs.Common.{ap, Err}
use Rattle.jsonb_value.specs.declared.error.Error.TheVariants.{InvalidJson, InvalidJsonb}
use Rattle.jsonb_value.proofs.DepthLaws.{its_error}
use Rattle.jsonb_codec.proofs.tape.encode_text_within.Goals as goal

pub returns-in-Err-clause-invalid : goal.returns-in-Err-clause-invalid
returns-in-Err-clause-invalid c = λ is.
    let (near, same) = its_error _ _ _ c.in-Err.error InvalidJson c.args.depth
    c.as_bytes.ensures.value c.refusal_within.ensures.deep c.refusal_within.ensures.other is in
    c.in-Err.ensures.invalid (ap Err same) near

pub returns-in-Err-clause-past : goal.returns-in-Err-clause-past
returns-in-Err-clause-past c = λ is.
    let (near, same) = its_error _ _ _ c.in-Err.error InvalidJsonb c.args.depth
    c.as_bytes.ensures.value c.refusal_within.ensures.deep c.refusal_within.ensures.other is in
    c.in-Err.ensures.past (ap Err same)
