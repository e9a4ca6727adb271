use Rattle.std.proofs.Common.{arith, to_z, rules, ◌*ℤ◌, ◌^◌, ◌-◌, ◌≡◌, pos, subst, ℤ}
use Rattle.std.specs.Prelude.{FitsSigned}
use Rattle.std.specs.Int.{w128}
use Rattle.std.proofs.lemmas.Int.{to_z-of_z}
use Rattle.jsonb_value.proofs.ScaledRange.{product_left}
use Rattle.jsonb_typed.proofs.NumberLaws.{raised_past}
use Rattle.jsonb_typed.proofs.numbers.raised.Goals as goal

pub loop-step-preserved : goal.loop-step-preserved
loop-step-preserved c = grind (arith, to_z-of_z, product_left)

pub returns-in-None : goal.returns-in-None
returns-in-None c =
    let raised = to_z w128 c.loop-step.raised-bits in
    let outside : ¬ (FitsSigned w128 (raised *ℤ pos 10)) = search rules in
    let so_far : raised *ℤ pos (10 ^ (c.args.steps - c.loop-step._step))
    ≡ c.args.value *ℤ pos (10 ^ c.args.steps) =
    subst
    (λ (x : ℤ). raised *ℤ pos (10 ^ (c.args.steps - c.loop-step._step))
    ≡ x *ℤ pos (10 ^ c.args.steps))
    (to_z-of_z w128 c.args.value c.ranges.value) c.loop-step.invariant in
    λ v fits. (
      λ e. absurd cc,
      λ is. absurd (raised_past raised c.args.value v c.args.steps c.loop-step._step
          c.loop-step-test.true outside fits so_far is),
    )
