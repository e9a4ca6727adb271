use Rattle.std.proofs.Common.{◌≡◌, drop}
use Rattle.typed_chunk.specs.Flags.{some_has}
use Rattle.typed_chunk.proofs.flags.some_has.Given as goal

abbrev pub invariant-loop-flag : goal.invariant-loop-flag
invariant-loop-flag l = some_has (drop l.flag-index l.has) ≡ some_has l.has
