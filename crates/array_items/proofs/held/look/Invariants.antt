-- White space alone came so far.
use Rattle.std.proofs.Common.{◌≡◌, drop}
use Rattle.array_items.specs.Blanks.{trimmed}
use Rattle.array_items.proofs.held.look.Given as goal

abbrev pub invariant-loop-index : goal.invariant-loop-index
invariant-loop-index l = trimmed l.held ≡ trimmed (drop l.index l.held)
