use Rattle.std.proofs.Common.{◌≡◌, ◌+◌, ◌*◌, ◌^◌, ◌≤◌, ℕ, List, length}
use Rattle.jsonb_value.specs.Tree.{Pairs}
use Rattle.jsonb_codec.specs.Doc.{Keys}
use Rattle.jsonb_codec.proofs.parts.keys_len.Given as goal

-- The length of the keys so far plus that of the keys left is the whole length.
abbrev pub invariant-loop-entry : goal.invariant-loop-entry
invariant-loop-entry l =
    (4 * l.total + 2 ^ 28 * length l.left ≤ 2 ^ 28 * length l.entries)
    × ((ps : Pairs) (p : List ℕ) → Keys ps l.entries p → (others : Pairs)
    × ((q : List ℕ) × (Keys others l.left q × (length p ≡ l.total + length q))))

abbrev pub decreases-loop-entry : goal.decreases-loop-entry
decreases-loop-entry l = length l.left
