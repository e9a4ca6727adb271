use Rattle.std.proofs.Common.{◌∙◌, sym}
use Rattle.jsonb_codec.proofs.Shapes.{takes_of_each, takes_all}
use Rattle.jsonb_codec.proofs.writer.measure.item_size.Goals as goal

pub returns-then-count-eq0 : goal.returns-then-count-eq0
returns-then-count-eq0 g c t is =
    let h = takes_of_each g.S.Leaf.Leaf.code g.S.Source.laws c.args.container c.requires t is in
    takes_all h (sym (c.count.ensures h.others h.are) ∙ c.if-count-eq0.true)
