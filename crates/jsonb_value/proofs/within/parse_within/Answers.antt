use Rattle.std.proofs.Common.{ap, Err}
use Rattle.jsonb_value.specs.declared.error.Error.TheVariants.{InvalidJson}
use Rattle.jsonb_value.proofs.DepthLaws.{depth_of_spelled, its_error, spelled_within}
use Rattle.jsonb_value.proofs.within.parse_within.Goals as goal

pub returns-in-Ok-clause-within : goal.returns-in-Ok-clause-within
returns-in-Ok-clause-within c =
    spelled_within c.args.exponents c.args.text.now _ c.args.depth
    (depth_of_spelled c.args.exponents c.args.text.now c.utf8.text) c.in-Ok.ensures.ok
    c.in-Ok.ensures.within

pub returns-in-Err-clause-invalid : goal.returns-in-Err-clause-invalid
returns-in-Err-clause-invalid c = λ is.
    let (near, same) = its_error _ _ _ c.in-Err.error InvalidJson c.args.depth
    c.as_bytes.ensures.value c.refusal_within.ensures.deep c.refusal_within.ensures.other is in
    c.in-Err.ensures.invalid (ap Err same) near
