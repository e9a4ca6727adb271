use Rattle.std.proofs.Common.{arith}
use Rattle.jsonb_value.proofs.Json.Exponents.{past_refused, past_found}
use Rattle.jsonb_value.proofs.parser.number.scaled.Goals as goal

pub returns-in_err-with_zeros : goal.returns-in_err-with_zeros
returns-in_err-with_zeros c = λ b z is.
    rw c.from_residual-in_err-with_zeros.ensures
    (past_refused b z c.args.count c.args.magnitude c.unwrap_or-raised.result c.args.exponent is
    c.if-exponent.false (omega (arith, c.ranges.count)) c.unwrap_or-raised.ensures
    (omega (arith, c.if-raised-count.false)) c.in_err-with_zeros.ensures)

pub returns : goal.returns
returns c = λ b z is.
    past_found b z c.args.count c.args.magnitude c.unwrap_or-raised.result c.args.exponent is
    c.if-exponent.false (omega (arith, c.ranges.count.fits)) c.unwrap_or-raised.ensures
    (omega (arith, c.if-raised-count.false)) _ c.in_ok-with_zeros.ensures.0
    c.in_ok-with_zeros.ensures.1
