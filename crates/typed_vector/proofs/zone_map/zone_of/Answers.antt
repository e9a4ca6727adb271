use Rattle.std.proofs.Common.{◌+◌, take, sym, subst, ◌∙◌, arith}
use Rattle.std.specs.Prelude.{Some}
use Rattle.std.proofs.lemmas.List.{length-map}
use Rattle.typed_vector.specs.ZoneMap.{IsZone, are_set, set_values}
use Rattle.typed_vector.proofs.BlockLaws.{set_flag, set_values-set, set_values-unset}
use Rattle.typed_vector.proofs.zone_map.zone_of.Goals as goal
use Rattle.typed_vector.proofs.zone_map.zone_of.Goals.{then-eq, else-eq}

pub loop-index-preserved : goal.loop-index-preserved
loop-index-preserved g c =
    let vs = c.args.values.now in
    let flags = c.args.flags.now in
    let eq = g.F.PartialEq.eq in
    let bs = are_set eq c.args.set flags in
    let i = c.loop-index.index in
    let item = c.index-values-index.result in
    let low = c.loop-index-test.true in
    let same = length-map flags (λ one. eq one c.args.set) ∙ c.requires in
    let flag = set_flag eq c.args.set flags i c.index-flags-index.result
    (omega (arith, low, c.requires)) c.index-flags-index.is ∙ sym c.eq.ensures in
    let so_far = set_values (take i vs) (take i bs) in
    let more = set_values (take (i + 1) vs) (take (i + 1) bs) in
    elim c.if-eq.branch [
      | then-eq w ↦
          subst (IsZone g.T.Ord.cmp more) (sym w.zone-is)
          (subst (λ items. IsZone g.T.Ord.cmp items (Some w.with_value.result))
          (set_values-set vs bs i item same low (flag ∙ w.if-eq.true) c.index-values-index.is)
          (w.with_value.ensures so_far c.loop-index.invariant))
      | else-eq w ↦
          subst (IsZone g.T.Ord.cmp more) (sym w.zone-is)
          (subst (λ items. IsZone g.T.Ord.cmp items c.loop-index.zone)
          (set_values-unset vs bs i item same low (flag ∙ w.if-eq.false)) c.loop-index.invariant)
    ]
