use Rattle.typed_vector.proofs.ZoneLaws.{span_added}
use Rattle.typed_vector.proofs.zone_map.Zone.add.Goals as goal

pub returns : goal.returns
returns g c = λ items span.
    span_added g.T.Ord.cmp g.met.T.Ord.total items c.args.item c.args.self.now _
    c.min-self.ensures c.max-self.ensures span
