-- The order of fractions is total.
use Rattle.std.proofs.lemmas.Grind.{common_steps}
use Rattle.std.proofs.Common.{◌≡◌, ℕ, ◌*◌, ◌^◌, ◌-◌, ◌<◌, ◌≤◌, sym, ap, ◌∙◌, arith, pow-add}
use Rattle.std.proofs.Math.Nat.{mul_comm, one-le-pow}
use Rattle.std.specs.Prelude.{ℤ, pos, ◌*ℤ◌}
use Rattle.std.specs.declared.cmp.Ordering.{Ordering}
use Rattle.std.specs.Ordering.{int_cmp, ordering_reverse}
use Rattle.std.specs.Cmp.{IsTotalOrder, int_cmp_total}
use Rattle.jsonb_value.specs.Fraction.{Fraction, fraction_cmp}
use Rattle.jsonb_value.proofs.Scaling.{*ℤ-pos-pos, int_cmp-scaled}

-- R orders three values as it orders three integers
pub record Placed {K : Type 0} (R : K → K → Ordering) (x y z : K) : Type 0 where
  pub first : ℤ
  pub second : ℤ
  pub third : ℤ
  pub first_second : R x y ≡ int_cmp first second
  pub second_third : R y z ≡ int_cmp second third
  pub first_third : R x z ≡ int_cmp first third

pub total_by_places : {K : Type 0} {R : K → K → Ordering}
    → ((x y : K) → R x y ≡ ordering_reverse (R y x)) → ((x y z : K) → Placed R x y z)
    → IsTotalOrder R
total_by_places {K} {R} turned placed = record {
  antisymm = turned;
  trans = λ x y z h k. let p = placed x y z in
      p.first_third
      ∙ int_cmp_total.trans p.first p.second p.third (sym p.first_second ∙ h)
      (sym p.second_third ∙ k);
  congr = λ x y z h. let p = placed x y z in
      p.first_third ∙ int_cmp_total.congr p.first p.second p.third (sym p.first_second ∙ h)
      ∙ sym p.second_third;
}

-- both sides are multiplied by k
multiplied : (u v : ℤ) (m n k : ℕ) → 0 < k
    → int_cmp (u *ℤ pos m) (v *ℤ pos n) ≡ int_cmp (u *ℤ pos (m * k)) (v *ℤ pos (n * k))
multiplied u v m n k p =
    sym (int_cmp-scaled (u *ℤ pos m) (v *ℤ pos n) k p)
    ∙ (λ i. int_cmp (*ℤ-pos-pos u m k i) (*ℤ-pos-pos v n k i))

power_above_zero : (n : ℕ) → 0 < 10 ^ n
power_above_zero n = one-le-pow n 10 (omega arith)

-- over the product of the three denominators
placed_fractions : (x y z : Fraction) → Placed fraction_cmp x y z
placed_fractions x y z =
    let p = 10 ^ x.scale in
    let q = 10 ^ y.scale in
    let r = 10 ^ z.scale in
    record {
      first = x.value *ℤ pos (q * r);
      second = y.value *ℤ pos (p * r);
      third = z.value *ℤ pos (p * q);
      first_second = multiplied x.value y.value q p r (power_above_zero z.scale);
      second_third = multiplied y.value z.value r q p (power_above_zero x.scale)
          ∙ (λ i. int_cmp (y.value *ℤ pos (mul_comm r p i)) (z.value *ℤ pos (mul_comm q p i)));
      first_third = multiplied x.value z.value r p q (power_above_zero y.scale)
          ∙ (λ i. int_cmp (x.value *ℤ pos (mul_comm r q i)) (z.value *ℤ pos (p * q)));
    }

pub fraction_cmp_total : IsTotalOrder fraction_cmp
fraction_cmp_total = grind (arith, common_steps, total_by_places, placed_fractions)

-- the smaller scale is raised to the greater one
pub aligned : (x y : Fraction) → x.scale ≤ y.scale
    → int_cmp (x.value *ℤ pos (10 ^ (y.scale - x.scale))) y.value ≡ fraction_cmp x y
aligned x y h =
    let raised : 10 ^ (y.scale - x.scale) * 10 ^ x.scale ≡ 10 ^ y.scale =
    sym (pow-add 10 (y.scale - x.scale) x.scale) ∙ ap (λ n. 10 ^ n) (omega arith) in
    sym (int_cmp-scaled (x.value *ℤ pos (10 ^ (y.scale - x.scale))) y.value (10 ^ x.scale)
    (power_above_zero x.scale))
    ∙ ap (λ z. int_cmp z (y.value *ℤ pos (10 ^ x.scale)))
    (*ℤ-pos-pos x.value (10 ^ (y.scale - x.scale)) (10 ^ x.scale) ∙ ap
    (λ n. x.value *ℤ pos n) raised)

-- as `aligned`, with the comparison made the other way round
pub aligned_back : (x y : Fraction) → y.scale ≤ x.scale
    → ordering_reverse (int_cmp (y.value *ℤ pos (10 ^ (x.scale - y.scale))) x.value)
    ≡ fraction_cmp x y
aligned_back x y h =
    grind (arith, aligned)
