use Rattle.std.proofs.Common.{subst, ℕ}
use Rattle.jsonb_typed.specs.LeastTypes.{IsFirstHeld, types_in_order}
use Rattle.jsonb_typed.proofs.lattice.least_type.Goals as goal

pub returns : goal.returns
returns c =
    subst
    (λ (scale : ℕ). IsFirstHeld c.args.fit c.args.path.now c.args.rows.now (types_in_order scale)
    c.first_held.result)
    c.greatest_scale.ensures c.first_held.ensures
