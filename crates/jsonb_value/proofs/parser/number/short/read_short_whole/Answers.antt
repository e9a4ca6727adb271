use Rattle.std.proofs.Common.{sym, ◌∙◌, ap, ◌∷◌, [], Some, chars}
use Rattle.std.specs.Str.Parse.{digits_value_after}
use Rattle.jsonb_value.specs.Reader.Reading.{front_digits}
use Rattle.jsonb_value.proofs.Json.NumberSteps.{whole_zero, whole_more}
use Rattle.jsonb_value.proofs.parser.number.short.read_short_whole.Goals as goal

pub returns-then-first-eq48 : goal.returns-then-first-eq48
returns-then-first-eq48 c =
    let first = c.in_ok-first.first in (
      first ∷ [],
      whole_zero _ _ first c.in_ok-first.ensures
          (sym c.if-not-is_ascii_digit.ensures.value) c.if-first-eq48.true,
      c.short_with_digit-start.ensures.value,
      c.short_with_digit-start.ensures.short,
    )

pub returns : goal.returns
returns c =
    let first = c.in_ok-first.first in
    let digits = c.in_ok-digits.ensures.0 in
    let read = whole_more _ _ first c.in_ok-first.ensures
    (sym c.if-not-is_ascii_digit.ensures.value) c.if-first-eq48.false in
    let front = front_digits (chars c.in_ok-first.rest.now) in
    let all = first ∷ front in (
      all,
      read ∙ ap (λ rest. Some (all, rest)) (sym c.in_ok-digits.ensures.1),
      digits.value
          ∙ ap (λ n. digits_value_after 10 n front) c.short_with_digit-start.ensures.value,
      digits.short,
    )
