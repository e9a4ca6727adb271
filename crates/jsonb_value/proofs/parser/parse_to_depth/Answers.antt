use Rattle.jsonb_value.proofs.Json.Documents.{refused_within}
use Rattle.jsonb_value.proofs.Json.ValueSteps.{err_is, fails_as}
use Rattle.jsonb_value.proofs.parser.parse_to_depth.Goals as goal

pub returns-in_err-read_text_within-clause-invalid :
    goal.returns-in_err-read_text_within-clause-invalid
returns-in_err-read_text_within-clause-invalid c =
    refused_within c.args.exponents _ _ _ _ c.from_residual.ensures.1
    c.in_err-read_text_within.ensures.err

pub returns-in_err-read_text_within-clause-errors :
    goal.returns-in_err-read_text_within-clause-errors
returns-in_err-read_text_within-clause-errors c =
    err_is _ _ _ c.from_residual.ensures.1 (fails_as _ _ _ c.in_err-read_text_within.ensures.err)
