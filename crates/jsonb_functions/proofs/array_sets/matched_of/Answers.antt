use Rattle.std.proofs.Common.{◌≤◌, arith, length}
use Rattle.jsonb_functions.specs.ChosenSource.{listed_trees}
use Rattle.jsonb_functions.proofs.ArraySetLaws.{matched_all, matched_next, matched_none}
use Rattle.jsonb_functions.proofs.array_sets.matched_of.Goals as goal

pub loop-part-init : goal.loop-part-init
loop-part-init c =
    matched_none c.args.matched (listed_trees c.args.others.now) _ _ c.args.items.now
    c.in_ok-counts.ensures c.new-list.ensures.items

pub loop-part-preserved : goal.loop-part-preserved
loop-part-preserved c =
    let walk = c.loop-part in
    matched_next c.args.matched (listed_trees c.args.others.now) walk.counts.entries _
    walk.list.items _ c.args.items.now walk.part-index c.part-item.result c.node_of.result
    c.lower_count-is_left.result (omega arith) c.part-item.is c.node_of.ensures walk.invariant
    c.lower_count-is_left.ensures.was c.lower_count-is_left.ensures.lowered
    c.in_ok-push_if.ensures

pub returns : goal.returns
returns c =
    let walk = c.loop-part in
    let done : length c.args.items.now ≤ walk.part-index = omega arith in
    matched_all c.args.matched (listed_trees c.args.others.now) walk.counts.entries walk.list.items
    c.args.items.now walk.part-index done walk.invariant
