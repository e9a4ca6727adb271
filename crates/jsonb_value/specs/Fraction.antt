-- Decimal fractions, compared exactly.
use Rattle.std.specs.Prelude.{ℕ, ℤ, pos, ◌*ℤ◌, ◌^◌}
use Rattle.std.specs.declared.cmp.Ordering.{Ordering}
use Rattle.std.specs.Ordering.{int_cmp}

-- The fraction `value` / 10^`scale`.
pub record Fraction : Type 0 where
  pub value : ℤ
  pub scale : ℕ

-- Compares two fractions by cross-multiplication: each value times ten to the power of the other's
-- scale.
abbrev pub fraction_cmp : Fraction → Fraction → Ordering
fraction_cmp x y = int_cmp (x.value *ℤ pos (10 ^ y.scale)) (y.value *ℤ pos (10 ^ x.scale))
