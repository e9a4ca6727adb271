use Rattle.std.proofs.Common.{◌≡◌, ◌<◌, ℕ, get_or}
use Rattle.typed_chunk.specs.Packed.{code_in}
use Rattle.typed_chunk.proofs.unpacked.fill_narrow.Given as goal

abbrev pub invariant-loop-index : goal.invariant-loop-index
invariant-loop-index l = (k : ℕ) → k < l.index → get_or l.codes k 0 ≡ code_in l.width l.bytes k
