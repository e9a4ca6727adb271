use Rattle.std.proofs.Common.{arith, sym, chars}
use Rattle.jsonb_value.proofs.Json.DigitLaws.{digit_fits, no_digits, first_no_digit, great_no_digit}
use Rattle.jsonb_value.proofs.Json.DigitLaws.{short_ends}
use Rattle.jsonb_value.proofs.parser.number.short.read_short_digits.Goals as goal
use Rattle.jsonb_value.proofs.parser.number.short.read_short_digits.Goals.{in_default}
use Rattle.jsonb_value.proofs.parser.number.short.read_short_digits.Goals.{in-Some+then-not-is_ascii_digit}

pub overflow_add-digits : goal.overflow_add-digits
overflow_add-digits c =
    let within =
    digit_fits c.args.text.now _ c.digits.digits.count _ _ c.utf8.text c.digits.invariant.1
    c.in-Some.ensures (sym c.if-not-is_ascii_digit.ensures.value) in
    omega (arith, within)

pub returns : goal.returns
returns c =
    short_ends (chars c.args.text.now) _ c.args.start c.digits.digits
    c.digits.invariant.1 c.digits.invariant.2 c.digits.invariant.3 c.digits.invariant.4
    (no_digits _ (elim c.match-split_ascii.branch [
      | in-Some+then-not-is_ascii_digit w ↦ λ d more e.
          first_no_digit _ _ d _ more (sym w.if-not-is_ascii_digit.ensures.value) w.in-Some.ensures e
      | in_default w ↦ λ d more e. great_no_digit d (w.in_default.ensures d more e)
    ]))
