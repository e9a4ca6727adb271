-- The matched items of those that were passed are in the list.
use Rattle.jsonb_functions.specs.ChosenSource.{listed_trees}
use Rattle.jsonb_functions.proofs.ArraySetLaws.{AreMatched}
use Rattle.jsonb_functions.proofs.array_sets.matched_of.Given as goal

abbrev pub invariant-loop-part : goal.invariant-loop-part
invariant-loop-part l =
    AreMatched l.matched (listed_trees l.others) l.counts.entries l.list.items l.items l.part-index
