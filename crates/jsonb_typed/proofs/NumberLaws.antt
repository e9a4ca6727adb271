-- Values that are raised to a scale, or lowered to it, are equal numbers.
use Rattle.std.proofs.Common.{◌≡◌, ℕ, ◌+◌, ◌-◌, ◌*◌, ◌^◌, ◌<◌, ◌≤◌, Some, Option, sym}
use Rattle.std.proofs.Common.{ap, ap₂, subst}
use Rattle.std.proofs.Common.{◌∙◌, arith, pow-add}
use Rattle.std.proofs.Math.Nat.{mul_comm, one-le-pow, pow-succ'}
use Rattle.std.specs.Prelude.{ℤ, pos, ◌*ℤ◌, ◌<ℤ◌, ◌↔◌, FitsSigned, int_div, int_rem}
use Rattle.std.specs.Int.{w128}
use Rattle.std.proofs.lemmas.Int.{ints, quot-rem, rem_below}
use Rattle.std.specs.declared.cmp.Ordering.{Ordering}
use Rattle.std.specs.declared.cmp.Ordering.TheVariants.{Equal}
use Rattle.std.specs.Ordering.{int_cmp, MatchOrdering, ordering_reverse}
use Rattle.std.specs.Cmp.{int_cmp_is, int_ranks}
use Rattle.jsonb_value.specs.Fraction.{Fraction, fraction_cmp}
use Rattle.jsonb_value.proofs.FractionLaws.{aligned, aligned_back}
use Rattle.jsonb_value.proofs.Scaling.{*ℤ-pos-pos, int_cmp-scaled}
use Rattle.jsonb_value.proofs.ScaledRange.{product_past}

is_equal : (a b : ℤ) → int_cmp a b ≡ Equal → a ≡ b
is_equal a b e =
    subst (λ (r : Ordering). MatchOrdering r (a <ℤ b) (a ≡ b) (b <ℤ a)) e (int_ranks a b)

equal_is : (a b : ℤ) → a ≡ b → int_cmp a b ≡ Equal
equal_is a b h = sym (int_cmp_is a b Equal h)

power_above_zero : (n : ℕ) → 0 < 10 ^ n
power_above_zero n = one-le-pow n 10 (omega arith)

-- A positive factor cancels.
cancel : (a b : ℤ) (k : ℕ) → 0 < k → a *ℤ pos k ≡ b *ℤ pos k → a ≡ b
cancel a b k p h = is_equal a b (sym (int_cmp-scaled a b k p) ∙ equal_is _ _ h)

-- Where the product exceeds 128 bits, the whole product is no value of 128 bits.
pub raised_past : (raised value v : ℤ) (steps step : ℕ) → step < steps
    → ¬ (FitsSigned w128 (raised *ℤ pos 10)) → FitsSigned w128 v
    → raised *ℤ pos (10 ^ (steps - step)) ≡ value *ℤ pos (10 ^ steps)
    → value *ℤ pos (10 ^ steps) ≡ v → ⊥
raised_past raised value v steps step low outside inside so_far is =
    let none : raised ≡ pos 0 =
    is_equal raised (pos 0)
    (sym (product_past raised v steps step low outside inside) ∙ equal_is _ _ (so_far ∙ is)) in
    outside (subst (λ (x : ℤ). FitsSigned w128 (x *ℤ pos 10)) (sym none)
    (record { sfits = omega arith }))

tenth : (l : ℤ) → int_rem l (pos 10) ≡ pos 0 → int_div l (pos 10) *ℤ pos 10 ≡ l
tenth l h = omega (arith, ints, h, quot-rem l (pos 10))

no_rest : (l w : ℤ) → w *ℤ pos 10 ≡ l → int_rem l (pos 10) ≡ pos 0
no_rest l w h =
    omega (arith, ints, h, quot-rem l (pos 10), rem_below l (pos 10) (omega arith))

-- One more factor of ten was taken out.
pub lowered_more : (l value : ℤ) (step : ℕ) → l *ℤ pos (10 ^ step) ≡ value
    → int_rem l (pos 10) ≡ pos 0 → int_div l (pos 10) *ℤ pos (10 ^ (step + 1)) ≡ value
lowered_more l value step so_far h =
    let power : 10 ^ (step + 1) ≡ 10 * 10 ^ step =
    ap (λ n. 10 ^ n) (omega arith) ∙ pow-succ' 10 step in
    ap (λ (n : ℕ). int_div l (pos 10) *ℤ pos n) power
    ∙ sym (*ℤ-pos-pos (int_div l (pos 10)) 10 (10 ^ step))
    ∙ ap (λ (x : ℤ). x *ℤ pos (10 ^ step)) (tenth l h) ∙ so_far

-- The value without the factors of ten that were taken out so far.
left_of : (l value v : ℤ) (steps step : ℕ) → step ≤ steps → l *ℤ pos (10 ^ step) ≡ value
    → v *ℤ pos (10 ^ steps) ≡ value → v *ℤ pos (10 ^ (steps - step)) ≡ l
left_of l value v steps step le so_far is =
    let parts : 10 ^ (steps - step) * 10 ^ step ≡ 10 ^ steps =
    sym (pow-add 10 (steps - step) step) ∙ ap (λ n. 10 ^ n) (omega (arith, le)) in
    cancel (v *ℤ pos (10 ^ (steps - step))) l (10 ^ step) (power_above_zero step)
    (*ℤ-pos-pos v (10 ^ (steps - step)) (10 ^ step) ∙ ap (λ (n : ℕ). v *ℤ pos n) parts ∙ is
    ∙ sym so_far)

-- Where a digit other than 0 would be lost, no value has these digits.
pub lowered_none : (l value v : ℤ) (steps step : ℕ) → step < steps → l *ℤ pos (10 ^ step) ≡ value
    → (int_rem l (pos 10) ≡ pos 0 → ⊥) → v *ℤ pos (10 ^ steps) ≡ value → ⊥
lowered_none l value v steps step low so_far rest is =
    let left : v *ℤ pos (10 ^ (steps - step)) ≡ l =
    left_of l value v steps step (omega (arith, low)) so_far is in
    let power : 10 ^ (steps - step) ≡ 10 ^ (steps - (step + 1)) * 10 =
    ap (λ n. 10 ^ n) (omega (arith, low)) ∙ pow-succ' 10 (steps - (step + 1))
    ∙ mul_comm 10 (10 ^ (steps - (step + 1))) in
    rest (no_rest l (v *ℤ pos (10 ^ (steps - (step + 1))))
    (*ℤ-pos-pos v (10 ^ (steps - (step + 1))) 10 ∙ ap (λ (n : ℕ). v *ℤ pos n) (sym power) ∙ left))

-- When all factors are taken out, the value is what is left.
pub lowered_done : (l value v : ℤ) (steps step : ℕ) → step ≡ steps → l *ℤ pos (10 ^ step) ≡ value
    → (Some l ≡ Some v) ↔ (v *ℤ pos (10 ^ steps) ≡ value)
lowered_done l value v steps step done so_far = (there, back)
  where
    there : Some l ≡ Some v → v *ℤ pos (10 ^ steps) ≡ value
    there e =
        let same : l ≡ v = cc in
        rw (← same, ← done) so_far

    back : v *ℤ pos (10 ^ steps) ≡ value → Some l ≡ Some v
    back is =
        ap Some (cancel l v (10 ^ steps) (power_above_zero steps)
        (subst (λ (n : ℕ). l *ℤ pos (10 ^ n) ≡ value) done so_far ∙ sym is))

reversed : (r : Ordering) → ordering_reverse r ≡ Equal → r ≡ Equal
reversed r e = grind arith

-- The value is raised to the scale.
pub raised_equal : (x : Fraction) (v : ℤ) (scale : ℕ) → x.scale ≤ scale
    → (x.value *ℤ pos (10 ^ (scale - x.scale)) ≡ v)
    ↔ (fraction_cmp x (record { value = v; scale = scale }) ≡ Equal)
raised_equal x v scale le =
    let same = aligned x (record { value = v; scale = scale }) le in (
      λ e. sym same ∙ equal_is _ _ e,
      λ e. is_equal _ _ (same ∙ e),
    )

-- The value is lowered to the scale.
pub lowered_equal : (x : Fraction) (v : ℤ) (scale : ℕ) → scale ≤ x.scale
    → (v *ℤ pos (10 ^ (x.scale - scale)) ≡ x.value)
    ↔ (fraction_cmp x (record { value = v; scale = scale }) ≡ Equal)
lowered_equal x v scale le =
    let same = aligned_back x (record { value = v; scale = scale }) le in (
      λ e. sym same ∙ ap ordering_reverse (equal_is _ _ e),
      λ e. is_equal _ _ (reversed _ (same ∙ e)),
    )

-- A value that is found by raising, or lowering, is found exactly if it is an equal number.
pub by_raising : (found : Option ℤ) (x : Fraction) (value v : ℤ) (scale digits : ℕ)
    → value ≡ x.value → digits ≡ x.scale → digits ≤ scale
    → (found ≡ Some v) ↔ (value *ℤ pos (10 ^ (scale - digits)) ≡ v)
    → (found ≡ Some v) ↔ (fraction_cmp x (record { value = v; scale = scale }) ≡ Equal)
by_raising found x value v scale digits is same le when =
    let equal = raised_equal x v scale (rw (← same) le) in
    let one : x.value *ℤ pos (10 ^ (scale - x.scale)) ≡ value *ℤ pos (10 ^ (scale - digits)) =
    ap₂ (λ (a : ℤ) (n : ℕ). a *ℤ pos (10 ^ (scale - n))) (sym is) (sym same) in (
      λ e. equal.0 (one ∙ when.0 e),
      λ e. when.1 (sym one ∙ equal.1 e),
    )

pub by_lowering : (found : Option ℤ) (x : Fraction) (value v : ℤ) (scale digits : ℕ)
    → value ≡ x.value → digits ≡ x.scale → scale ≤ digits
    → (found ≡ Some v) ↔ (v *ℤ pos (10 ^ (digits - scale)) ≡ value)
    → (found ≡ Some v) ↔ (fraction_cmp x (record { value = v; scale = scale }) ≡ Equal)
by_lowering found x value v scale digits is same le when =
    let equal = lowered_equal x v scale (rw (← same) le) in
    let one : v *ℤ pos (10 ^ (x.scale - scale)) ≡ v *ℤ pos (10 ^ (digits - scale)) =
    ap (λ (n : ℕ). v *ℤ pos (10 ^ (n - scale))) (sym same) in (
      λ e. equal.0 (one ∙ when.0 e ∙ is),
      λ e. when.1 (sym one ∙ equal.1 e ∙ sym is),
    )

-- No two values are equal to one number.
pub one_equal : (x : Fraction) (v w : ℤ) (scale : ℕ)
    → fraction_cmp x (record { value = v; scale = scale }) ≡ Equal
    → fraction_cmp x (record { value = w; scale = scale }) ≡ Equal → v ≡ w
one_equal x v w scale first second =
    cancel v w (10 ^ x.scale) (power_above_zero x.scale)
    (sym (is_equal _ _ first) ∙ is_equal _ _ second)
