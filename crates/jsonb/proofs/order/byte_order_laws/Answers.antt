use Rattle.jsonb.proofs.OrderLaws.{bytes_total, bytes_cmp-trees, bytes_cmp-one_tree}
use Rattle.jsonb.proofs.OrderLaws.{items_cmp-one_tree, bytes_cmp-kinds, bytes_cmp-norm}
use Rattle.jsonb.proofs.OrderLaws.{bytes_cmp-right_norm}
use Rattle.jsonb.proofs.order.byte_order_laws.Goals as goal

pub returns : goal.returns
returns c = record {
  total = bytes_total;
  trees = bytes_cmp-trees;
  one_tree = bytes_cmp-one_tree;
  items = items_cmp-one_tree;
  kinds = bytes_cmp-kinds;
  norm_left = bytes_cmp-norm;
  norm_right = bytes_cmp-right_norm;
}
