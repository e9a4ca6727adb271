-- White space alone was passed over so far.
use Rattle.array_items.proofs.BlankSteps.{Passed}
use Rattle.array_items.proofs.held.next_byte.Given as goal

abbrev pub invariant-passing : goal.invariant-passing
invariant-passing g l = Passed (g.R.Read.remaining l.initial.reader) (g.R.Read.remaining l.reader)
