use Rattle.std.proofs.Common.{◌≡◌, ◌<◌, ◌^◌, ◌*◌, ℕ, get_or, take, drop}
use Rattle.typed_chunk.specs.Digits.{number}
use Rattle.typed_chunk.proofs.packed.write_narrow.Given as goal

abbrev pub invariant-loop-index : goal.invariant-loop-index
invariant-loop-index l = (k : ℕ) → k < l.index
    → get_or l.bytes k 0 ≡ number (2 ^ l.width) (take l.each (drop (l.each * k) l.codes))
