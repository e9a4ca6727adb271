use Rattle.std.proofs.Common.{◌≡◌, drop}
use Rattle.typed_chunk.specs.Flags.{all_have}
use Rattle.typed_chunk.proofs.flags.all_have.Given as goal

abbrev pub invariant-loop-flag : goal.invariant-loop-flag
invariant-loop-flag l = all_have (drop l.flag-index l.has) ≡ all_have l.has
