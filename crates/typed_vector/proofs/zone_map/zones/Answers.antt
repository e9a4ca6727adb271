use Rattle.std.proofs.Common.{rules, ◌≡◌, length, sym, ap, subst, ◌∙◌, arith}
use Rattle.std.specs.Int.{div_ceil}
use Rattle.typed_vector.specs.Cells.{cells}
use Rattle.typed_vector.specs.Contents.{rests}
use Rattle.typed_vector.specs.ZoneMap.{AreZones, IsZone, block_at, cell_values}
use Rattle.typed_vector.proofs.BlockLaws.{set_itself, zones_more}
use Rattle.typed_vector.proofs.CellLaws.{length-cells}
use Rattle.typed_vector.proofs.zone_map.zones.Goals as goal

pub loop-index-preserved : goal.loop-index-preserved
loop-index-preserved g c =
    let parts = c.parts-parts.result in
    let alike = c.parts-parts.ensures.alike in
    let others = rests (length c.args.column.now) parts.rest in
    let are = ap (λ set. cells parts.values.now set others) (set_itself parts.is_set.now)
    ∙ c.parts-parts.ensures.cells in
    let size = c.max-block_rows.result in
    let zone = c.zone_of_block-zone.result in
    record {
      count = search rules;
      room = search rules;
      each = zones_more
          (λ k zone. IsZone g.T.Ord.cmp (cell_values (block_at size c.args.column.now k)) zone)
          c.loop-index.zones.items c.push_reserved.new.self.items zone c.loop-index.index
          c.push_reserved.ensures.items c.loop-index.invariant.count c.loop-index.invariant.each
          (subst
          (λ rows. IsZone g.T.Ord.cmp (cell_values (block_at size rows c.loop-index.index)) zone)
          are (c.zone_of_block-zone.ensures others alike.counted));
    }

pub returns : goal.returns
returns g c =
    let parts = c.parts-parts.result in
    let alike = c.parts-parts.ensures.alike in
    let items = c.loop-index.zones.items in
    let long : length c.args.column.now ≡ length parts.values.now =
    ap length (sym c.parts-parts.ensures.cells)
    ∙ length-cells parts.values.now parts.is_set.now
    (rests (length c.args.column.now) parts.rest) alike.flags alike.counted in
    let all : length items ≡ c.div_ceil-count.result =
    omega (arith, c.loop-index.invariant.count) in
    let are : AreZones g.T.Ord.cmp c.max-block_rows.result c.args.column.now items =
    record {
      count = all ∙ c.div_ceil-count.ensures
          ∙ ap (λ n. div_ceil n c.max-block_rows.result) (sym long);
      each = λ k low.
          c.loop-index.invariant.each k (omega (arith, low, c.loop-index.invariant.count));
    } in
    subst (λ size. AreZones g.T.Ord.cmp size c.args.column.now items) c.max-block_rows.ensures are
