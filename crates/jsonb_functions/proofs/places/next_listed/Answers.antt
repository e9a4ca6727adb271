use Rattle.std.proofs.Common.{arith, drop}
use Rattle.jsonb_functions.specs.PathPlaces.{listed_places}
use Rattle.jsonb_functions.proofs.PathPlaceLaws.{item_missing, item_next, none_listed}
use Rattle.jsonb_functions.proofs.places.next_listed.Goals as goal

pub loop-index-preserved : goal.loop-index-preserved
loop-index-preserved c =
    item_missing c.args.bytes.now c.args.place c.args.indexes.now c.loop-index.passed
    c.in-Some.index.now c.step_at.result
    (listed_places c.args.bytes.now c.args.place (drop c.args.passed.now c.args.indexes.now))
    c.in-Some.ensures.lookup.3.0 c.in-Some.ensures.lookup.1 c.step_at.ensures
    c.loop-index.invariant c.in_default-child_place.ensures.value

pub returns-in-Some-child_place : goal.returns-in-Some-child_place
returns-in-Some-child_place c =
    item_next c.args.bytes.now c.args.place c.args.indexes.now c.loop-index.passed
    c.in-Some.index.now c.step_at.result
    (listed_places c.args.bytes.now c.args.place (drop c.args.passed.now c.args.indexes.now))
    c.in-Some.ensures.lookup.3.0 c.in-Some.ensures.lookup.1 c.step_at.ensures
    c.loop-index.invariant c.in-Some-child_place.item c.in-Some-child_place.ensures.value

pub returns : goal.returns
returns c =
    none_listed c.args.bytes.now c.args.place c.args.indexes.now c.loop-index.passed
    (listed_places c.args.bytes.now c.args.place (drop c.args.passed.now c.args.indexes.now))
    c.in_default.ensures.lookup.3 c.loop-index.invariant

pub loop-index-smaller : goal.loop-index-smaller
loop-index-smaller c = omega (arith, c.in-Some.ensures.lookup.3.0)
