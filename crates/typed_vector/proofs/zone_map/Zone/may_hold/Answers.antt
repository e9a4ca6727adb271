use Rattle.std.proofs.Common.{◌≡◌, ◌&&◌, [], filter, sym, ap, subst, ◌∙◌}
use Rattle.std.specs.Bool.{OnFalse}
use Rattle.std.specs.Ordering.{partial_le}
use Rattle.typed_vector.specs.ZoneMap.{lies_within}
use Rattle.typed_vector.proofs.ZoneLaws.{none_within, tested}
use Rattle.typed_vector.proofs.zone_map.Zone.may_hold.Goals as goal

pub returns-then-ge-clause-exact : goal.returns-then-ge-clause-exact
returns-then-ge-clause-exact g c = λ items span.
    c.le.ensures
    ∙ ap (λ b. b && partial_le g.T.PartialOrd.partial_cmp c.args.self.now.least c.args.high)
    (sym c.if-ge.true ∙ c.ge.ensures)
    ∙ tested g.T.Ord.cmp g.met.T.Ord.total g.T.PartialOrd.partial_cmp
    g.met.T.Ord.matches_partial_cmp items c.args.self.now c.args.low c.args.high span

pub returns-else-ge-clause-exact : goal.returns-else-ge-clause-exact
returns-else-ge-clause-exact g c = λ items span.
    c.if-ge.false
    ∙ ap (λ b. b && partial_le g.T.PartialOrd.partial_cmp c.args.self.now.least c.args.high)
    (sym c.if-ge.false ∙ c.ge.ensures)
    ∙ tested g.T.Ord.cmp g.met.T.Ord.total g.T.PartialOrd.partial_cmp
    g.met.T.Ord.matches_partial_cmp items c.args.self.now c.args.low c.args.high span

pub returns-then-ge-clause-none : goal.returns-then-ge-clause-none
returns-then-ge-clause-none g c = λ items span.
    subst (λ b. OnFalse b (filter (lies_within g.T.Ord.cmp c.args.low c.args.high) items ≡ []))
    (sym (returns-then-ge-clause-exact g c items span))
    (none_within g.T.Ord.cmp items c.args.low c.args.high)

pub returns-else-ge-clause-none : goal.returns-else-ge-clause-none
returns-else-ge-clause-none g c = λ items span.
    subst (λ b. OnFalse b (filter (lies_within g.T.Ord.cmp c.args.low c.args.high) items ≡ []))
    (sym (returns-else-ge-clause-exact g c items span))
    (none_within g.T.Ord.cmp items c.args.low c.args.high)
