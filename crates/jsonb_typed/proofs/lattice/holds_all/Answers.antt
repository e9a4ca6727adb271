use Rattle.std.proofs.Common.{rules, refl, subst, arith}
use Rattle.std.specs.Prelude.{IsTrue, Option}
use Rattle.jsonb_value.specs.Tree.{Tree}
use Rattle.jsonb_typed.specs.LeastTypes.{IsHeldAt, IsHeldIn}
use Rattle.jsonb_typed.proofs.LeastLaws.{all_held, row_held}
use Rattle.jsonb_typed.proofs.lattice.holds_all.Goals as goal

-- One more row is held.
pub loop-row-preserved : goal.loop-row-preserved
loop-row-preserved c =
    let held : IsTrue c.is_held.result = search rules in
    row_held (IsHeldAt c.args.fit c.args.candidate c.args.path.now) c.args.rows.now
    c.loop-row.row-index c.row-item.result c.loop-row-test.true c.row-item.is c.loop-row.invariant
    (subst (λ (m : Option Tree). IsHeldIn c.args.fit c.args.candidate m) c.member_of.ensures.value
    (c.is_held.ensures.0 held))

pub returns : goal.returns
returns c = (
  λ e. all_held (IsHeldAt c.args.fit c.args.candidate c.args.path.now) c.args.rows.now
      c.loop-row.row-index (omega (arith, c.loop-row-test.false)) c.loop-row.invariant,
  λ all. refl,
)
