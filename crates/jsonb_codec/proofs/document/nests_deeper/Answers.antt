use Rattle.std.proofs.Common.{◌≡◌, ◌≤◌, Bool, true, false, IsTrue, refl, arith, rules}
use Rattle.std.specs.Bool.{OnFalse}
use Rattle.jsonb_codec.specs.declared.document.fault.Fault.TheVariants.{TooDeep}
use Rattle.jsonb_codec.specs.Depth.{depth}
use Rattle.jsonb_codec.proofs.DepthLaws.{Doc-depth}
use Rattle.jsonb_codec.proofs.document.nests_deeper.Goals as goal

pub returns-then-bytes-depth-clause-within : goal.returns-then-bytes-depth-clause-within
returns-then-bytes-depth-clause-within c = (
  λ (t, h). let flat = Doc-depth _ t h in (t, (omega arith, h)),
  λ (t, (w, h)). (t, h),
)

on_false : (b : Bool) (P : Type 0) → (b ≡ false → P) → OnFalse b P
on_false true P h = tt
on_false false P h = h refl

pub returns-in-Err-clause-within : goal.returns-in-Err-clause-within
returns-in-Err-clause-within c = on_false c.eq.result _ (λ is_other.
    let is : c.in-Err.fault ≡ TooDeep → IsTrue c.eq.result = λ same. search rules in (
      λ (t, h).
          let whole : depth t ≤ depth t = omega arith in
          absurd (c.in-Err.ensures.none (depth t)
          (λ same. let deep = is same in absurd cc) (t, (whole, h))),
      λ (t, (w, h)). (t, h),
    ))
