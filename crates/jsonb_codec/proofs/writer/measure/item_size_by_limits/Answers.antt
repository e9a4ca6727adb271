use Rattle.std.proofs.Common.{arith}
use Rattle.jsonb_codec.proofs.Shapes.{takes_of_each}
use Rattle.jsonb_codec.proofs.writer.measure.item_size_by_limits.Goals as goal

-- The item's length is the total minus that of the few others.
pub returns-in-Some : goal.returns-in-Some
returns-in-Some g c t is =
    let known = c.requires.takes in
    let h = takes_of_each g.S.Leaf.Leaf.code g.S.Source.laws c.args.item known t is in
    omega (arith, h.both, (c.in-Some.ensures.some h.others h.are).1)

-- The item's length is the total minus that of the others.
pub returns-in-Some-measure_items : goal.returns-in-Some-measure_items
returns-in-Some-measure_items g c t is =
    let known = c.requires.takes in
    let h = takes_of_each g.S.Leaf.Leaf.code g.S.Source.laws c.args.item known t is in
    omega (arith, h.both, (c.in-Some-measure_items.ensures.some h.others h.are).1)
