use Rattle.jsonb_value.proofs.Json.Documents.{refused_within}
use Rattle.jsonb_codec.proofs.tape.encode_to_depth.Goals as goal

pub returns-in_err-read_text_within-clause-invalid :
    goal.returns-in_err-read_text_within-clause-invalid
returns-in_err-read_text_within-clause-invalid c =
    refused_within c.args.exponents _ _ _ _ c.from_residual.ensures.1
    c.in_err-read_text_within.ensures.err
