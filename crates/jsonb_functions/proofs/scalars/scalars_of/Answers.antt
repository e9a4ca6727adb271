use Rattle.std.proofs.Common.{arith, rules}
use Rattle.jsonb.specs.EntryTrees.{rest_trees}
use Rattle.jsonb.specs.Node.{node_tree}
use Rattle.jsonb_functions.specs.ContainSteps.{scalar_weight}
use Rattle.jsonb_functions.proofs.ScalarLaws.{collected_all, scalars_first}
use Rattle.jsonb_functions.proofs.StepLaws.{takes_short}
use Rattle.jsonb_functions.proofs.scalars.scalars_of.Goals as goal

pub loop-item-preserved : goal.loop-item-preserved
loop-item-preserved c = record {
  collected = c.in_ok-keep_scalar.ensures.kept _ _
      (rw c.in-Some.ensures.steps at c.loop-item.invariant.collected);
  spent = omega (
    arith,
    scalars_first (rest_trees c.loop-item.items) (node_tree c.in-Some.item)
        (rest_trees c.next_item.new.items) c.in-Some.ensures.steps,
    c.loop-item.invariant.spent,
    c.in_ok-keep_scalar.ensures.cost,
  );
}

pub returns-clause-same : goal.returns-clause-same
returns-clause-same c =
    collected_all _ _ _ c.in_default.ensures.steps.0 c.loop-item.invariant.collected

pub returns-in_err-keep_scalar-clause-cost : goal.returns-in_err-keep_scalar-clause-cost
returns-in_err-keep_scalar-clause-cost c =
    takes_short _ _ _ (scalar_weight (node_tree c.in-Some.item)) _ _ _ (search rules)
    (λ short. omega (
      arith,
      scalars_first (rest_trees c.loop-item.items) (node_tree c.in-Some.item)
          (rest_trees c.next_item.new.items) c.in-Some.ensures.steps,
      c.loop-item.invariant.spent,
      short,
    )) c.in_err-keep_scalar.ensures.cost
