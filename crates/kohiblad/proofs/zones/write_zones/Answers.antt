use Rattle.std.proofs.Common.{◌≡◌, ◌+◌, ◌≤◌, length, refl, sym, ap, subst, inl, inr, ◌∙◌, arith}
use Rattle.std.specs.Prelude.{slice_set}
use Rattle.std.specs.Int.{div_ceil}
use Rattle.std.proofs.lemmas.List.{length-set}
use Rattle.kohiblad.specs.Zones.{AreZonesCopied}
use Rattle.kohiblad.proofs.ZoneWriting.{ZonesSoFar, all_zones, one_more_zone}
use Rattle.kohiblad.proofs.zones.write_zones.Goals as goal

pub loop-index-preserved : goal.loop-index-preserved
loop-index-preserved g c =
    let cmp = g.Z.Limit.Ord.cmp in
    let written = g.Z.ZoneStruct.written in
    let index = c.loop-index.index in
    let zone = c.zone_of_block.result in
    subst
    (λ it. ZonesSoFar cmp written c.max-block_rows.result c.args.values.now c.args.states.now
    (index + 1) c.args.out.now (slice_set c.loop-index.out index it))
    (sym c.of.ensures)
    (one_more_zone cmp written c.max-block_rows.result c.args.values.now c.args.states.now index
    c.args.out.now c.loop-index.out zone c.loop-index.invariant
    (omega (arith, c.loop-index-test.true, c.if-out-blocks.false)) c.zone_of_block.ensures
    (length-set c.loop-index.out index (written zone)))

pub returns : goal.returns
returns g c =
    let cmp = g.Z.Limit.Ord.cmp in
    let written = g.Z.ZoneStruct.written in
    let values = c.args.values.now in
    let states = c.args.states.now in
    let same : length states ≡ length values = omega (arith, c.if-states-values.false) in
    let count = c.div_ceil-blocks.ensures
    ∙ ap (λ n. div_ceil (length values) n) c.max-block_rows.ensures in
    let all : c.loop-index.index ≡ c.div_ceil-blocks.result = omega arith in
    let room : c.loop-index.index ≤ length c.args.out.now =
    omega (arith, c.if-out-blocks.false) in
    let copied = all_zones cmp written c.max-block_rows.result values states c.loop-index.index
    c.args.out.now c.loop-index.out c.loop-index.invariant same (all ∙ c.div_ceil-blocks.ensures)
    room in
    inr (
      same,
      (
        count,
        inl (
          refl,
          subst
              (λ n. AreZonesCopied cmp written n values states c.args.out.now c.loop-index.out)
              c.max-block_rows.ensures copied,
        ),
      ),
    )
