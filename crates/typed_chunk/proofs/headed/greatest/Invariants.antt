use Rattle.std.proofs.Common.{◌≡◌, drop, max}
use Rattle.typed_chunk.specs.Headed.{greatest}
use Rattle.typed_chunk.proofs.headed.greatest.Given as goal

abbrev pub invariant-loop-code : goal.invariant-loop-code
invariant-loop-code l = max l.most (greatest (drop l.code-index l.codes)) ≡ greatest l.codes
