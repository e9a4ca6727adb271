use Rattle.std.proofs.Common.{refl, sym, ◌∙◌, ap, lit<, ◌∷◌, [], Some, chars}
use Rattle.jsonb_value.specs.Reader.Reading.{front_digits}
use Rattle.jsonb_value.proofs.Json.NumberSteps.{whole_zero, whole_more}
use Rattle.jsonb_value.proofs.parser.number.read_whole.Goals as goal

pub returns-then-first-eq48 : goal.returns-then-first-eq48
returns-then-first-eq48 c =
    let first = c.in_ok-first.first in (
      first ∷ [],
      whole_zero _ _ first c.in_ok-first.ensures
          (sym c.if-not-is_ascii_digit.ensures.value) c.if-first-eq48.true,
      c.with_digit-value.ensures 0 (lit< tt, refl),
    )

pub returns : goal.returns
returns c =
    let first = c.in_ok-first.first in
    let digits = c.read_digits.ensures.digits _ (c.with_digit-value.ensures 0 (lit< tt, refl)) in
    let read = whole_more _ _ first c.in_ok-first.ensures
    (sym c.if-not-is_ascii_digit.ensures.value) c.if-first-eq48.false in
    let all = first ∷ front_digits (chars c.in_ok-first.rest.now) in
    (all, read ∙ ap (λ rest. Some (all, rest)) (sym c.read_digits.ensures.rest), digits.value)
