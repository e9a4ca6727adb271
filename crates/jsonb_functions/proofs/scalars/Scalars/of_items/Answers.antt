use Rattle.jsonb_functions.proofs.ScalarLaws.{sorted_scalars}
use Rattle.jsonb_functions.proofs.scalars.Scalars.of_items.Goals as goal

pub returns-clause-scalars : goal.returns-clause-scalars
returns-clause-scalars c = (
  c.sort_unstable.ensures.sorted,
  sorted_scalars _ _ _ c.sort_unstable.ensures.permutation c.in_ok-sorted.ensures.same,
)
