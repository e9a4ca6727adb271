use Rattle.std.proofs.Common.{◌≡◌, ◌+◌, drop}
use Rattle.typed_chunk.proofs.BeginningLaws.{same_len}
use Rattle.typed_chunk.proofs.beginning.shared.Given as goal

abbrev pub invariant-loop-index : goal.invariant-loop-index
invariant-loop-index l =
    l.index + same_len (drop l.index l.text) (drop l.index l.other) ≡ same_len l.text l.other
