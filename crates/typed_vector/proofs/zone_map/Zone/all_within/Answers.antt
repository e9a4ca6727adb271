use Rattle.std.proofs.Common.{◌&&◌, sym, ap, ◌∙◌}
use Rattle.std.specs.Ordering.{partial_le}
use Rattle.typed_vector.proofs.ZoneLaws.{all_tested}
use Rattle.typed_vector.proofs.zone_map.Zone.all_within.Goals as goal

pub returns-then-ge : goal.returns-then-ge
returns-then-ge g c = λ items span.
    c.le.ensures
    ∙ ap (λ b. b && partial_le g.T.PartialOrd.partial_cmp c.args.self.now.greatest c.args.high)
    (sym c.if-ge.true ∙ c.ge.ensures)
    ∙ all_tested g.T.Ord.cmp g.met.T.Ord.total g.T.PartialOrd.partial_cmp
    g.met.T.Ord.matches_partial_cmp items c.args.self.now c.args.low c.args.high span

pub returns-else-ge : goal.returns-else-ge
returns-else-ge g c = λ items span.
    c.if-ge.false
    ∙ ap (λ b. b && partial_le g.T.PartialOrd.partial_cmp c.args.self.now.greatest c.args.high)
    (sym c.if-ge.false ∙ c.ge.ensures)
    ∙ all_tested g.T.Ord.cmp g.met.T.Ord.total g.T.PartialOrd.partial_cmp
    g.met.T.Ord.matches_partial_cmp items c.args.self.now c.args.low c.args.high span
