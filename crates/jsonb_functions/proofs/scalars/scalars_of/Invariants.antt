-- What is in the list and what is left have the scalars, and the steps pay for what was passed.
use Rattle.std.proofs.Common.{◌≡◌, ◌+◌, length}
use Rattle.jsonb_value.specs.Value.{trees_of}
use Rattle.jsonb.specs.EntryTrees.{rest_trees}
use Rattle.jsonb_functions.specs.ContainSteps.{scalar_weights}
use Rattle.jsonb_functions.specs.Scalars.{AreCollected}
use Rattle.jsonb_functions.proofs.scalars.scalars_of.Given as goal

abbrev pub invariant-loop-item : goal.invariant-loop-item
invariant-loop-item l = record {
  collected : AreCollected (trees_of (rest_trees l.fn.items)) l.list.items
      (trees_of (rest_trees l.items));
  spent : l.fn.steps + scalar_weights (trees_of (rest_trees l.items))
      ≡ l.steps + scalar_weights (trees_of (rest_trees l.fn.items));
}

abbrev pub decreases-loop-item : goal.decreases-loop-item
decreases-loop-item l = length (rest_trees l.items)
