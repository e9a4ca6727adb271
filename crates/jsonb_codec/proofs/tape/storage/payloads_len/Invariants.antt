use Rattle.std.proofs.Common.{◌≡◌, ◌+◌, ◌*◌, ◌≤◌, ◌^◌, List, length}
use Rattle.jsonb_value.specs.Tree.{Tree}
use Rattle.jsonb_codec.specs.Shape.{AllFit, entries, payloads}
use Rattle.jsonb_codec.specs.Tape.{shapes_of}
use Rattle.jsonb_codec.proofs.tape.storage.payloads_len.Given as goal

abbrev pub invariant-loop-entry : goal.invariant-loop-entry
invariant-loop-entry l = (l.size + 2 ^ 26 * length l.left ≤ 2 ^ 26 * length l.fn.words)
    × ((ts : List Tree) → AllFit (shapes_of ts) → l.fn.words ≡ entries (shapes_of ts)
    → (rest : List Tree) × (AllFit (shapes_of rest) × ((l.left ≡ entries (shapes_of rest))
    × (l.size + length (payloads (shapes_of rest)) ≡ length (payloads (shapes_of ts))))))

abbrev pub decreases-loop-entry : goal.decreases-loop-entry
decreases-loop-entry l = length l.left
