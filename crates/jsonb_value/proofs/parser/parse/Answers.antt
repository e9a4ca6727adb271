use Rattle.std.proofs.Common.{chars}
use Rattle.jsonb_value.proofs.Json.Documents.{refused}
use Rattle.jsonb_value.proofs.Json.SpelledLaws.{same_meaning}
use Rattle.jsonb_value.proofs.parser.parse.Goals as goal

pub returns-in_err-read_text-clause-invalid : goal.returns-in_err-read_text-clause-invalid
returns-in_err-read_text-clause-invalid c =
    refused c.args.exponents _ _ _ c.from_residual.ensures.1 c.in_err-read_text.ensures.err

pub returns-in_err-read_text-clause-one : goal.returns-in_err-read_text-clause-one
returns-in_err-read_text-clause-one c = same_meaning c.args.exponents (chars _)

pub returns-clause-one : goal.returns-clause-one
returns-clause-one c = same_meaning c.args.exponents (chars _)
