-- The distinct items of those that were passed are in the list.
use Rattle.jsonb_functions.proofs.ArraySetLaws.{AreDistinct}
use Rattle.jsonb_functions.proofs.array_sets.distinct_of.Given as goal

abbrev pub invariant-loop-part : goal.invariant-loop-part
invariant-loop-part l = AreDistinct l.counts.entries l.list.items l.items l.part-index
