use Rattle.std.proofs.Common.{◌≡◌, ◌^◌, take}
use Rattle.typed_chunk.specs.Digits.{number}
use Rattle.typed_chunk.proofs.packed.byte_of.Given as goal

abbrev pub invariant-loop-index : goal.invariant-loop-index
invariant-loop-index l = l.byte ≡ number (2 ^ l.width) (take l.index l.codes)
