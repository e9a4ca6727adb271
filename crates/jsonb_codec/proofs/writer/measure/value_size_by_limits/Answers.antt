use Rattle.std.proofs.Common.{arith}
use Rattle.jsonb_codec.proofs.Shapes.{takes_of_each}
use Rattle.jsonb_codec.proofs.writer.measure.value_size_by_limits.Goals as goal

-- The value's length is the total minus that of the few others and their keys.
pub returns-in-Some : goal.returns-in-Some
returns-in-Some g c t is =
    let known = c.requires.takes in
    let h = takes_of_each g.S.Leaf.Leaf.code g.S.Source.laws c.args.value known t is in
    let are = c.fork.ensures h.others h.are in
    omega (arith, h.both, (c.in-Some.ensures.some h.others are).1)

-- The value's length is the total minus that of the others and their keys.
pub returns-in-Some-measure_members : goal.returns-in-Some-measure_members
returns-in-Some-measure_members g c t is =
    let known = c.requires.takes in
    let h = takes_of_each g.S.Leaf.Leaf.code g.S.Source.laws c.args.value known t is in
    let are = c.fork-in-loop-limit.ensures h.others h.are in
    omega (arith, h.both, (c.in-Some-measure_members.ensures.some h.others are).1)
