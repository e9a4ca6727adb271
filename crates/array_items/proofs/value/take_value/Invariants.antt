-- A part of the first value was taken.
use Rattle.array_items.proofs.ValueSteps.{Begun}
use Rattle.array_items.proofs.value.take_value.Given as goal

abbrev pub invariant-reading : goal.invariant-reading
invariant-reading g l = Begun (g.R.Read.remaining l.initial.reader) (g.R.Read.remaining l.reader)
    l.place l.row.items l.has_begun
