use Rattle.std.proofs.Common.{arith, ap, ap₂, sym, ◌∙◌}
use Rattle.jsonb_value.specs.TreeOrder.{tree_cmp}
use Rattle.jsonb_codec.specs.Depth.{size}
use Rattle.jsonb.specs.declared.node.Node.TheVariants.{Container}
use Rattle.jsonb.proofs.EntryTreeLaws.{entry_tree-node}
use Rattle.jsonb.proofs.order.walk.+documents.Goals as goal

pub cmp_parts-cmp_containers-requires : goal.cmp_parts-cmp_containers-requires
cmp_parts-cmp_containers-requires t c =
    let both = c.in-Container-Container in
    let is = entry_tree-node c.args.left (Container both.left) both.ensures.means in (
      omega (arith, ap size is, c.decreases),
      (both.ensures.container, both.ensures'.container),
    )

pub cmp_parts-returns-in-Container-Container : goal.cmp_parts-returns-in-Container-Container
cmp_parts-returns-in-Container-Container t c =
    let both = c.in-Container-Container in
    let left = entry_tree-node c.args.left (Container both.left) both.ensures.means in
    let right = entry_tree-node c.args.right (Container both.right) both.ensures'.means in
    c.cmp_containers.ensures ∙ sym (ap₂ tree_cmp left right)

pub cmp_read_parts-cmp_nodes-requires : goal.cmp_read_parts-cmp_nodes-requires
cmp_read_parts-cmp_nodes-requires t c =
    let is = entry_tree-node c.args.left c.of_part.result c.of_part.ensures.means in (
      omega (arith, ap size is, c.decreases),
      (c.of_part.ensures.container, c.of_part-2.ensures.container),
    )

pub cmp_read_parts-returns : goal.cmp_read_parts-returns
cmp_read_parts-returns t c =
    let left = entry_tree-node c.args.left c.of_part.result c.of_part.ensures.means in
    let right = entry_tree-node c.args.right c.of_part-2.result c.of_part-2.ensures.means in
    c.cmp_nodes.ensures ∙ sym (ap₂ tree_cmp left right)
