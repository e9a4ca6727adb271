-- No item that was passed has an equal.
use Rattle.std.proofs.Common.{◌≡◌, drop}
use Rattle.jsonb_value.specs.Tree.{Trees}
use Rattle.jsonb_functions.specs.ArraySets.{some_shared}
use Rattle.jsonb_functions.specs.ChosenSource.{listed_trees}
use Rattle.jsonb_functions.specs.ItemCounts.{CountsEquals}
use Rattle.jsonb_functions.proofs.array_sets.has_shared.Given as goal

abbrev pub invariant-loop-part : goal.invariant-loop-part
invariant-loop-part l = (us : Trees) → CountsEquals l.counts.entries us
    → some_shared (listed_trees l.items) us
    ≡ some_shared (listed_trees (drop l.part-index l.items)) us
