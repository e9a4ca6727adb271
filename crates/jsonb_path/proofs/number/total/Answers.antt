use Rattle.std.proofs.Common.{arith, subst, sym, ◌-◌}
use Rattle.std.specs.Prelude.{◌+ℤ◌}
use Rattle.jsonb_path.specs.Arithmetic.{GivesExactly}
use Rattle.jsonb_path.specs.Decimal.{decimal_fraction, decimal_value, raised_value}
use Rattle.jsonb_path.proofs.WholeLaws.{sum_at_left, sum_at_right}
use Rattle.jsonb_path.proofs.number.total.Goals as goal

pub returns-then-left-right : goal.returns-then-left-right
returns-then-left-right c =
    subst (λ z. GivesExactly z c.result_of.result)
    (sym (sum_at_right (decimal_fraction c.args.left) (decimal_fraction c.args.right)
    c.if-left-right.true))
    (subst (λ s. GivesExactly (record {
      value = raised_value c.args.left (c.args.right.scale - c.args.left.scale)
          +ℤ decimal_value c.args.right;
      scale = s;
    }) c.result_of.result) c.from.ensures (c.result_of.ensures _ c.raised_sum.ensures))

pub returns-else-left-right : goal.returns-else-left-right
returns-else-left-right c =
    subst (λ z. GivesExactly z c.result_of-else-left-right.result)
    (sym (sum_at_left (decimal_fraction c.args.left) (decimal_fraction c.args.right)
    (omega (arith, c.if-left-right.false))))
    (subst (λ s. GivesExactly (record {
      value = raised_value c.args.right (c.args.left.scale - c.args.right.scale)
          +ℤ decimal_value c.args.left;
      scale = s;
    }) c.result_of-else-left-right.result) c.from-else-left-right.ensures
    (c.result_of-else-left-right.ensures _ c.raised_sum-else-left-right.ensures))
