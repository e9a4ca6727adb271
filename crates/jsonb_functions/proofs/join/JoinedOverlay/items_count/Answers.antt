use Rattle.std.proofs.Common.{arith, ap}
use Rattle.jsonb_value.specs.Tree.{count}
use Rattle.jsonb_functions.proofs.JoinShapes.{count_append}
use Rattle.jsonb_functions.proofs.join.JoinedOverlay.items_count.Goals as goal

pub returns : goal.returns
returns c ts ((us, vs), (h, e)) = omega (
  arith,
  c.run_len.ensures.len us h.0,
  c.run_len-2.ensures.len vs h.1,
  count_append us vs,
  ap count e,
)
