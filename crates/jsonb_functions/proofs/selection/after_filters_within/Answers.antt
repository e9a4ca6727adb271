use Rattle.std.proofs.Common.{◌≡◌, Err, true, false, ap₂, get_or, rules, ◌∙◌, arith}
use Rattle.std.specs.List.{sum_by}
use Rattle.jsonb.specs.Node.{node_tree}
use Rattle.jsonb_functions.specs.Filter.{holds}
use Rattle.jsonb_functions.specs.PathPlaces.{tree_there}
use Rattle.jsonb_functions.specs.SelectSteps.{select_steps, term_steps}
use Rattle.jsonb_functions.proofs.PathPlaceLaws.{kept_on, left_out, steps_on, steps_out, steps_some}
use Rattle.jsonb_functions.proofs.StepLaws.{falls_short}
use Rattle.jsonb_functions.proofs.selection.after_filters_within.Goals as goal

pub loop-left-preserved : goal.loop-left-preserved
loop-left-preserved c =
    let left = c.loop-left.left.now in
    let s = c.selector-item.result in
    let condition = c.in-Filter.condition in
    let bytes = c.args.bytes.now in
    let place = c.args.place in
    let some = c.in-len1-up.len_at_least in
    let first : get_or left 0 s ≡ s = cc (c.selector-item.is) in
    let asks = ap₂ (λ t ts. sum_by (λ term. term_steps term t) ts) c.node_at_place-node.ensures.tree
    c.deref.ensures.value in
    let is : holds condition (tree_there bytes place) ≡ true =
    cc (c.holds.ensures, c.if-not-holds.false, c.node_at_place-node.ensures.tree) in record {
      leads = (
        c.loop-left.invariant.leads.0
            ∙ kept_on left s condition bytes place some first c.in-Filter.is is,
        omega (arith, c.loop-left.invariant.leads.1),
      );
      taken = omega (
        arith,
        c.loop-left.invariant.taken,
        steps_on left s condition bytes place some first c.in-Filter.is c.requires is,
        c.in_ok-ask_terms.ensures,
        asks,
      );
    }

pub returns-then-not-holds-clause-kept : goal.returns-then-not-holds-clause-kept
returns-then-not-holds-clause-kept c =
    let condition = c.in-Filter.condition in
    let is : holds condition (tree_there c.args.bytes.now c.args.place) ≡ false =
    cc (c.holds.ensures, c.if-not-holds.true, c.node_at_place-node.ensures.tree) in
    c.loop-left.invariant.leads.0
    ∙ left_out c.loop-left.left.now c.selector-item.result condition c.args.bytes.now
    c.args.place c.in-len1-up.len_at_least (cc (c.selector-item.is)) c.in-Filter.is is

pub returns-then-not-holds-clause-cost : goal.returns-then-not-holds-clause-cost
returns-then-not-holds-clause-cost c =
    let condition = c.in-Filter.condition in
    let asks = ap₂ (λ t ts. sum_by (λ term. term_steps term t) ts) c.node_at_place-node.ensures.tree
    c.deref.ensures.value in
    let is : holds condition (tree_there c.args.bytes.now c.args.place) ≡ false =
    cc (c.holds.ensures, c.if-not-holds.true, c.node_at_place-node.ensures.tree) in
    omega (
      arith,
      c.loop-left.invariant.taken,
      steps_out c.loop-left.left.now c.selector-item.result condition c.args.bytes.now
          c.args.place c.in-len1-up.len_at_least (cc (c.selector-item.is)) c.in-Filter.is
          c.requires is,
      c.in_ok-ask_terms.ensures,
      asks,
    )

pub returns-in_err-ask_terms-clause-cost : goal.returns-in_err-ask_terms-clause-cost
returns-in_err-ask_terms-clause-cost c =
    let condition = c.in-Filter.condition in
    let asks = ap₂ (λ t ts. sum_by (λ term. term_steps term t) ts) c.node_at_place-node.ensures.tree
    c.deref.ensures.value in
    let most = steps_some c.loop-left.left.now c.selector-item.result condition c.args.bytes.now
    c.args.place c.in-len1-up.len_at_least (cc (c.selector-item.is)) c.in-Filter.is c.requires in
    let e = c.in_err-ask_terms.field-0.0 in
    let is : c.from_residual.result ≡ Err e = search rules in
    rw is (falls_short e
    (sum_by (λ term. term_steps term (node_tree c.node_at_place-node.result)) c.deref.result.now)
    (select_steps c.args.path.now (tree_there c.args.bytes.now c.args.place)) c.loop-left.steps
    c.args.steps.now c.in_err-ask_terms.ensures
    (λ short. omega (arith, short, most, asks, c.loop-left.invariant.taken)))
