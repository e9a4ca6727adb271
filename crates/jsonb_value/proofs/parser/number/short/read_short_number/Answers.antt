use Rattle.std.proofs.Common.{refl, chars}
use Rattle.jsonb_value.proofs.Json.NumberSteps.{short_found}
use Rattle.jsonb_value.proofs.parser.number.short.read_short_number.Goals as goal

pub returns : goal.returns
returns c = λ rule.
    short_found rule (chars c.args.text.now) _ _ _ _ _ c.in_ok-digits.digits _
    c.read_sign-is_negative.ensures c.in_ok-whole.ensures c.in_ok-digits.ensures
    (c.if-begins_exponent.ensures refl rule) c.in_ok-number.ensures
