use Rattle.std.proofs.Common.{arith}
use Rattle.std.proofs.lemmas.Int.{to_z-of_z}
use Rattle.jsonb_value.proofs.ScaledRange.{product_left, product_done, product_past}
use Rattle.jsonb_value.proofs.order.cmp_by_scale.Goals as goal

pub loop-step-preserved : goal.loop-step-preserved
loop-step-preserved c = grind (arith, to_z-of_z, product_left)

pub returns-in-None : goal.returns-in-None
returns-in-None c = grind (arith, to_z-of_z, product_past)

pub returns : goal.returns
returns c =
    grind (arith, to_z-of_z, product_done)
