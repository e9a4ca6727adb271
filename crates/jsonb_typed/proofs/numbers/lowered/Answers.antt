use Rattle.std.proofs.Common.{arith, to_z, ◌*ℤ◌, ◌^◌, ◌≡◌, pos, subst, ℤ}
use Rattle.std.specs.Prelude.{int_rem}
use Rattle.std.specs.Int.{w128}
use Rattle.std.proofs.lemmas.Int.{to_z-of_z, quot_fits}
use Rattle.jsonb_typed.proofs.NumberLaws.{lowered_done, lowered_more, lowered_none}
use Rattle.jsonb_typed.proofs.numbers.lowered.Goals as goal

pub returns-then-lowered-ne0 : goal.returns-then-lowered-ne0
returns-then-lowered-ne0 c =
    let lowered = to_z w128 c.loop-step.lowered-bits in
    let so_far : lowered *ℤ pos (10 ^ c.loop-step._step) ≡ c.args.value =
    subst (λ (x : ℤ). lowered *ℤ pos (10 ^ c.loop-step._step) ≡ x)
    (to_z-of_z w128 c.args.value c.ranges.value) c.loop-step.invariant in
    let rest : int_rem lowered (pos 10) ≡ pos 0 → ⊥ = λ none. grind arith in
    λ v. (
      λ e. absurd cc,
      λ is. absurd (lowered_none lowered c.args.value v c.args.steps c.loop-step._step
          c.loop-step-test.true so_far rest is),
    )

pub loop-step-preserved : goal.loop-step-preserved
loop-step-preserved c = grind (arith, to_z-of_z, quot_fits, lowered_more)

pub returns : goal.returns
returns c =
    let lowered = to_z w128 c.loop-step.lowered-bits in
    let so_far : lowered *ℤ pos (10 ^ c.loop-step._step) ≡ c.args.value =
    subst (λ (x : ℤ). lowered *ℤ pos (10 ^ c.loop-step._step) ≡ x)
    (to_z-of_z w128 c.args.value c.ranges.value) c.loop-step.invariant in
    λ v. lowered_done lowered c.args.value v c.args.steps c.loop-step._step
    (omega (arith, c.loop-step-test.false, c.loop-step.auto._step-end)) so_far
