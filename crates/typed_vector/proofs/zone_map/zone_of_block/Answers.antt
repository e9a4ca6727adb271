use Rattle.typed_vector.proofs.BlockLaws.{zone_is}
use Rattle.typed_vector.proofs.zone_map.zone_of_block.Goals as goal

pub returns : goal.returns
returns g c = λ rests many.
    zone_is g.T.Ord.cmp g.F.PartialEq.eq c.args.set c.args.values.now c.args.flags.now rests
    c.args.block_rows c.args.index c.min.result c.zone_of.result c.requires.alike many
    c.min.ensures c.zone_of.ensures
