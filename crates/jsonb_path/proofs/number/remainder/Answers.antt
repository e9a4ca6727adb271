use Rattle.std.proofs.Common.{arith, subst, ◌∙◌}
use Rattle.jsonb_value.specs.Json.Numeral.{signed_number}
use Rattle.jsonb_value.specs.Order.{fraction_of}
use Rattle.jsonb_path.specs.Arithmetic.{GivesExactly, GivesRemainder}
use Rattle.jsonb_path.specs.Decimal.{decimal_fraction}
use Rattle.jsonb_path.proofs.WholeLaws.{remainder_given}
use Rattle.jsonb_path.proofs.number.remainder.Goals as goal

pub returns : goal.returns
returns c =
    subst (λ x. GivesRemainder x (fraction_of c.args.right.now) c.result_of.result)
    c.of-left.ensures.value
    (subst (λ y. GivesRemainder (decimal_fraction c.of-left.result) y c.result_of.result)
    c.of-right.ensures.value
    (remainder_given c.of-left.result c.of-right.result c.rest.result c.result_of.result
    c.rest.ensures.value c.rest.ensures.fits (omega (arith, c.max-scale.ensures))
    (λ z. omega (arith, z))
    (subst (λ s. GivesExactly (record {
      value = signed_number c.of-left.result.is_negative c.rest.result;
      scale = s;
    }) c.result_of.result) (c.from.ensures ∙ c.max-scale.ensures)
    (c.result_of.ensures _ c.signed.ensures))))
