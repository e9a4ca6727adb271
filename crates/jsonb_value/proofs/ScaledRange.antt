-- Multiplying by ten step by step, inside the range of 128 bits and beyond it.
use Rattle.std.proofs.Common.{◌≡◌, ℕ, suc, ◌+◌, ◌-◌, ◌*◌, ◌^◌, ◌<◌, ◌≤◌, sym, ap, ◌∙◌}
use Rattle.std.proofs.Common.{arith}
use Rattle.std.proofs.Math.Nat.{pow-succ', le-mul_of_pos_right, one-le-pow}
use Rattle.std.proofs.Math.IntN.{*ℤ-one, one, neg_ℤ}
use Rattle.std.specs.Prelude.{ℤ, pos, negsuc, ◌*ℤ◌, ◌<ℤ◌, FitsSigned}
use Rattle.std.specs.Int.{w128}
use Rattle.std.specs.Int.Signed.{mag}
use Rattle.std.proofs.lemmas.Int.{ints}
use Rattle.std.specs.declared.cmp.Ordering.TheVariants.{Less, Greater}
use Rattle.std.specs.Ordering.{int_cmp}
use Rattle.std.specs.Cmp.{int_cmp_is}
use Rattle.jsonb_value.proofs.Scaling.{*ℤ-pos-pos}

-- with a step left, the power has a factor of ten
power_left : (steps step : ℕ) → step < steps → 10 ^ (steps - step) ≡ 10 * 10 ^ (steps - (step + 1))
power_left steps step h =
    let e : steps - step ≡ suc (steps - (step + 1)) = omega arith in
    ap (λ n. 10 ^ n) e ∙ pow-succ' 10 (steps - (step + 1))

-- the factor of ten moves from the power into the number
pub product_left : (v : ℤ) (steps step : ℕ) → step < steps
    → (v *ℤ pos 10) *ℤ pos (10 ^ (steps - (step + 1))) ≡ v *ℤ pos (10 ^ (steps - step))
product_left v steps step h = grind (arith, *ℤ-pos-pos, power_left)

is_less : (x y : ℤ) → x <ℤ y → int_cmp x y ≡ Less
is_less x y h = sym (int_cmp_is x y Less h)

is_greater : (x y : ℤ) → y <ℤ x → int_cmp x y ≡ Greater
is_greater x y h = sym (int_cmp_is x y Greater h)

-- no step is left
pub product_done : (v : ℤ) (steps step : ℕ) → steps ≤ step → v *ℤ pos (10 ^ (steps - step)) ≡ v
unfolding one
product_done v steps step h = grind (arith, *ℤ-one)

outside_above : (v : ℕ) → ¬ (FitsSigned w128 (pos v *ℤ pos 10)) → 2 ^ 127 ≤ v * 10
outside_above v outside = by_le (λ small. outside (record { sfits = small }))
  where
    by_le : ¬ (v * 10 < 2 ^ 127) → 2 ^ 127 ≤ v * 10
    by_le h = omega arith

mag-neg_ℤ-pos : (x : ℕ) → mag (neg_ℤ (pos x)) ≡ x - 1
mag-neg_ℤ-pos x = grind arith

outside_below : (v : ℕ) → ¬ (FitsSigned w128 (negsuc v *ℤ pos 10)) → 2 ^ 127 < suc v * 10
outside_below v outside = by_le (λ small. outside (record { sfits = rw mag-neg_ℤ-pos small }))
  where
    by_le : ¬ (suc v * 10 - 1 < 2 ^ 127) → 2 ^ 127 < suc v * 10
    by_le h = omega arith

-- a number whose tenfold does not fit is beyond every number that fits, on the side of its sign
past : (v other : ℤ) (n : ℕ) → 0 < n → ¬ (FitsSigned w128 (v *ℤ pos 10)) → FitsSigned w128 other
    → int_cmp (v *ℤ pos (10 * n)) other ≡ int_cmp v (pos 0)
past (pos v) other n p outside inside =
    grind (arith, outside_above, le-mul_of_pos_right, ints, is_greater)
past (negsuc v) other n p outside inside =
    grind (arith, outside_below, le-mul_of_pos_right, ints, is_less)

pub product_past : (v other : ℤ) (steps step : ℕ) → step < steps → ¬ (FitsSigned w128 (v *ℤ pos 10))
    → FitsSigned w128 other → int_cmp (v *ℤ pos (10 ^ (steps - step))) other ≡ int_cmp v (pos 0)
product_past v other steps step h outside inside =
    grind (arith, power_left, past, one-le-pow)
