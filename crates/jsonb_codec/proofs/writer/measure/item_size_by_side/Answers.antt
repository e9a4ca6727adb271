use Rattle.std.proofs.Common.{arith}
use Rattle.jsonb_codec.proofs.Shapes.{takes_of_each}
use Rattle.jsonb_codec.proofs.writer.measure.item_size_by_side.Goals as goal

-- The item's length is the total minus that of the others.
pub returns-in-Later : goal.returns-in-Later
returns-in-Later g c t is =
    let h = takes_of_each g.S.Leaf.Leaf.code g.S.Source.laws c.args.item c.requires t is in
    omega (arith, h.both, c.items_size.ensures h.others h.are)
