use Rattle.std.proofs.Common.{◌≤◌, ◌∙◌, arith, length, sym}
use Rattle.jsonb_functions.proofs.ArraySetLaws.{shared_found, shared_next, shared_none}
use Rattle.jsonb_functions.proofs.array_sets.has_shared.Goals as goal

pub loop-part-preserved : goal.loop-part-preserved
loop-part-preserved c us counted =
    let walk = c.loop-part in
    walk.invariant us counted
    ∙ shared_next us c.args.counts.now.entries c.args.items.now walk.part-index c.part-item.result
    c.node_of.result (omega arith) c.part-item.is c.node_of.ensures counted (omega arith)

pub returns-then-count_of-gt0 : goal.returns-then-count_of-gt0
returns-then-count_of-gt0 c us counted =
    let walk = c.loop-part in
    sym (walk.invariant us counted
    ∙ shared_found us c.args.counts.now.entries c.args.items.now walk.part-index c.part-item.result
    c.node_of.result (omega arith) c.part-item.is c.node_of.ensures counted (omega arith))

pub returns : goal.returns
returns c us counted =
    let walk = c.loop-part in
    let done : length c.args.items.now ≤ walk.part-index = omega arith in
    sym (walk.invariant us counted ∙ shared_none us c.args.items.now walk.part-index done)
