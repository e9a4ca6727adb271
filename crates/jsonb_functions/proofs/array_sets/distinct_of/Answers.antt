use Rattle.std.proofs.Common.{◌≤◌, arith, length}
use Rattle.jsonb_functions.proofs.ArraySetLaws.{distinct_all, distinct_few, distinct_next}
use Rattle.jsonb_functions.proofs.ArraySetLaws.{distinct_none}
use Rattle.jsonb_functions.proofs.array_sets.distinct_of.Goals as goal

pub loop-part-init : goal.loop-part-init
loop-part-init c =
    distinct_none _ _ c.args.items.now c.new-counts.ensures.empty c.new-list.ensures.items

pub raise_count-requires : goal.raise_count-requires
raise_count-requires c =
    let walk = c.loop-part in
    omega (
      arith,
      distinct_few walk.counts.entries walk.list.items c.args.items.now walk.part-index
          c.node_of.result walk.invariant,
    )

pub loop-part-preserved : goal.loop-part-preserved
loop-part-preserved c =
    let walk = c.loop-part in
    distinct_next walk.counts.entries _ walk.list.items _ c.args.items.now walk.part-index
    c.part-item.result c.node_of.result c.in_ok-before.before (omega arith) c.part-item.is
    c.node_of.ensures walk.invariant c.in_ok-before.ensures.before c.in_ok-before.ensures.raised
    c.in_ok-push_if.ensures

pub returns : goal.returns
returns c =
    let walk = c.loop-part in
    let done : length c.args.items.now ≤ walk.part-index = omega arith in
    distinct_all walk.counts.entries walk.list.items c.args.items.now walk.part-index done
    walk.invariant
