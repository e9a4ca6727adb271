use Rattle.std.proofs.Common.{ap, ◌∙◌, rules, arith, FitsSigned}
use Rattle.std.specs.Int.{w128}
use Rattle.std.specs.Ordering.{ordering_reverse}
use Rattle.std.proofs.lemmas.Int.{to_z-of_z}
use Rattle.jsonb_value.specs.declared.number.Number.TheVariants.{Decimal128}
use Rattle.jsonb_value.specs.Order.{fraction_of}
use Rattle.jsonb_value.proofs.FractionLaws.{aligned, aligned_back}
use Rattle.jsonb_value.proofs.order.cmp_decimals.Goals as goal

pub returns-then-left-right : goal.returns-then-left-right
returns-then-left-right c =
    let left = c.args.left in
    let right = c.args.right in
    let left_fits : FitsSigned w128 left.value = search rules in
    let right_fits : FitsSigned w128 right.value = search rules in
    let answer = simp to_z-of_z at c.cmp_by_scale.ensures in
    answer ∙ aligned (fraction_of (Decimal128 left))
    (fraction_of (Decimal128 right)) c.if-left-right.true

pub returns-else-left-right : goal.returns-else-left-right
returns-else-left-right c =
    let left = c.args.left in
    let right = c.args.right in
    let left_fits : FitsSigned w128 left.value = search rules in
    let right_fits : FitsSigned w128 right.value = search rules in
    let answer = simp to_z-of_z at c.cmp_by_scale-else-left-right.ensures in
    c.reverse.ensures ∙ ap ordering_reverse answer
    ∙ aligned_back (fraction_of (Decimal128 left)) (fraction_of (Decimal128 right))
    (omega (arith, c.if-left-right.false))
