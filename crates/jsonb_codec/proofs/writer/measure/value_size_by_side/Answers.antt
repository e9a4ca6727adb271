use Rattle.std.proofs.Common.{arith}
use Rattle.jsonb_codec.proofs.Shapes.{takes_of_each}
use Rattle.jsonb_codec.proofs.writer.measure.value_size_by_side.Goals as goal

-- The value's length is the total minus that of the others and their keys.
pub returns-in-Later : goal.returns-in-Later
returns-in-Later g c t is =
    let h = takes_of_each g.S.Leaf.Leaf.code g.S.Source.laws c.args.value c.requires t is in
    omega (arith, h.both, c.members_size.ensures h.others h.are)
