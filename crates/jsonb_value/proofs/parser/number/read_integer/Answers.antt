use Rattle.std.proofs.Common.{chars, lit<, refl}
use Rattle.jsonb_value.proofs.Json.NumberSteps.{integer_read}
use Rattle.jsonb_value.proofs.parser.number.read_integer.Goals as goal

pub returns : goal.returns
returns c =
    integer_read (chars c.args.text.now) _ _ _ c.read_digits.result.0
    c.read_either_sign-is_negative.ensures (c.read_digits.ensures.digits 0 (lit< tt, refl))
    c.if-digits-eq0.false c.read_digits.ensures.rest
