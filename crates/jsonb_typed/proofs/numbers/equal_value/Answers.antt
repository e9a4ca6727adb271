use Rattle.std.proofs.Common.{arith, to_z, of_z, rules, ◌∙◌}
use Rattle.std.specs.Prelude.{FitsSigned}
use Rattle.std.specs.Int.{w128}
use Rattle.std.proofs.lemmas.Int.{to_z-of_z}
use Rattle.jsonb_value.specs.Order.{fraction_of}
use Rattle.jsonb_typed.proofs.NumberLaws.{by_raising, by_lowering}
use Rattle.jsonb_typed.proofs.numbers.equal_value.Goals as goal

pub returns-then-digits-scale : goal.returns-then-digits-scale
returns-then-digits-scale c =
    let value = c.coefficient-value.result in
    let inside : FitsSigned w128 value = search rules in
    λ v fits. by_raising c.raised.result (fraction_of c.args.number) (to_z w128 (of_z w128 value)) v
    c.args.scale c.scale_of-digits.result
    (to_z-of_z w128 value inside ∙ c.coefficient-value.ensures) c.scale_of-digits.ensures
    (omega (arith, c.if-digits-scale.true)) (c.raised.ensures v fits)

pub returns-else-digits-scale : goal.returns-else-digits-scale
returns-else-digits-scale c =
    let value = c.coefficient-value.result in
    let inside : FitsSigned w128 value = search rules in
    λ v fits. by_lowering c.lowered.result (fraction_of c.args.number)
    (to_z w128 (of_z w128 value)) v c.args.scale c.scale_of-digits.result
    (to_z-of_z w128 value inside ∙ c.coefficient-value.ensures) c.scale_of-digits.ensures
    (omega (arith, c.if-digits-scale.false)) (c.lowered.ensures v)
