use Rattle.std.proofs.Common.{◌≡◌, true, false, ◌∙◌, arith}
use Rattle.jsonb_functions.specs.Filter.{holds}
use Rattle.jsonb_functions.specs.PathPlaces.{tree_there}
use Rattle.jsonb_functions.proofs.PathPlaceLaws.{kept_on, left_out}
use Rattle.jsonb_functions.proofs.selection.after_filters.Goals as goal

pub loop-left-preserved : goal.loop-left-preserved
loop-left-preserved c =
    let condition = c.in-Filter.condition in
    let is : holds condition (tree_there c.args.bytes.now c.args.place) ≡ true =
    cc (c.holds.ensures, c.if-not-holds.false, c.node_at_place-node.ensures.tree) in (
      c.loop-left.invariant.0
          ∙ kept_on c.loop-left.left.now c.selector-item.result condition c.args.bytes.now
          c.args.place c.in-len1-up.len_at_least (cc (c.selector-item.is)) c.in-Filter.is is,
      omega (arith, c.loop-left.invariant.1),
    )

pub returns-then-not-holds : goal.returns-then-not-holds
returns-then-not-holds c =
    let condition = c.in-Filter.condition in
    let is : holds condition (tree_there c.args.bytes.now c.args.place) ≡ false =
    cc (c.holds.ensures, c.if-not-holds.true, c.node_at_place-node.ensures.tree) in
    c.loop-left.invariant.0
    ∙ left_out c.loop-left.left.now c.selector-item.result condition c.args.bytes.now
    c.args.place c.in-len1-up.len_at_least (cc (c.selector-item.is)) c.in-Filter.is is
