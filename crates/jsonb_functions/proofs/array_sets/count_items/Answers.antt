use Rattle.std.proofs.Common.{◌≤◌, arith, length}
use Rattle.jsonb_functions.proofs.ArraySetLaws.{counted_all, counted_few, counted_next}
use Rattle.jsonb_functions.proofs.ArraySetLaws.{counted_none}
use Rattle.jsonb_functions.proofs.array_sets.count_items.Goals as goal

pub loop-part-init : goal.loop-part-init
loop-part-init c = counted_none _ c.args.items.now c.new-counts.ensures.empty

pub raise_count-requires : goal.raise_count-requires
raise_count-requires c =
    let walk = c.loop-part in
    omega (
      arith,
      counted_few walk.counts.entries c.args.items.now walk.part-index c.node_of.result
          walk.invariant,
    )

pub loop-part-preserved : goal.loop-part-preserved
loop-part-preserved c =
    let walk = c.loop-part in
    counted_next walk.counts.entries _ c.args.items.now walk.part-index c.part-item.result
    c.node_of.result (omega arith) c.part-item.is c.node_of.ensures walk.invariant
    c.in_ok-raise_count.ensures.raised

pub returns : goal.returns
returns c =
    let walk = c.loop-part in
    let done : length c.args.items.now ≤ walk.part-index = omega arith in
    counted_all walk.counts.entries c.args.items.now walk.part-index done walk.invariant
