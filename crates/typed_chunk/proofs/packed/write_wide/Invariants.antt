use Rattle.std.proofs.Common.{◌≡◌, ◌^◌, ◌*◌, take}
use Rattle.typed_chunk.specs.Digits.{digits, number}
use Rattle.typed_chunk.proofs.packed.write_wide.Given as goal

abbrev pub invariant-loop-index : goal.invariant-loop-index
invariant-loop-index l = take (l.size * l.index) l.bytes
    ≡ digits 256 (l.size * l.index) (number (2 ^ (8 * l.size)) (take l.index l.codes))
