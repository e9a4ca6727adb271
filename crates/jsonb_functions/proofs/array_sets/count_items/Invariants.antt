-- The items that were passed are counted.
use Rattle.jsonb_functions.proofs.ArraySetLaws.{AreCounted}
use Rattle.jsonb_functions.proofs.array_sets.count_items.Given as goal

abbrev pub invariant-loop-part : goal.invariant-loop-part
invariant-loop-part l = AreCounted l.counts.entries l.items l.part-index
