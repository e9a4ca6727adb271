-- What was counted and what is left make the whole.
use Rattle.std.proofs.Common.{◌≡◌, ◌≤◌, ◌+◌, length}
use Rattle.jsonb_value.specs.Tree.{Pairs, pair_count}
use Rattle.jsonb_codec.specs.Contents.{AreMembers}
use Rattle.jsonb_functions.specs.ChosenSource.{kept_pairs}
use Rattle.jsonb_functions.specs.JoinSource.{keys_size}
use Rattle.jsonb_functions.proofs.chosen.count_kept.Given as goal

abbrev pub invariant-loop-first : goal.invariant-loop-first
invariant-loop-first l = record {
  counted : (ps : Pairs) → AreMembers ps l.members
      → (others : Pairs) × (AreMembers others l.left
      × (pair_count (kept_pairs l.choice ps) ≡ l.count + pair_count (kept_pairs l.choice others)));
  bound : l.count + keys_size l.left ≤ keys_size l.members;
}

abbrev pub decreases-loop-first : goal.decreases-loop-first
decreases-loop-first l = length l.left.keys.entries.now
