use Rattle.std.proofs.Common.{arith}
use Rattle.jsonb_value.proofs.TreeLaws.{tree_cmp_total}
use Rattle.jsonb_value.proofs.KindLaws.{tree_cmp-itself, tree_cmp-by_rank, tree_cmp-norm}
use Rattle.jsonb_value.proofs.KindLaws.{tree_cmp-right_norm}
use Rattle.jsonb_value.proofs.order.order_of_trees.Goals as goal

pub returns : goal.returns
returns c =
    grind (
      arith,
      tree_cmp_total,
      tree_cmp-itself,
      tree_cmp-by_rank,
      tree_cmp-norm,
      tree_cmp-right_norm,
    )
