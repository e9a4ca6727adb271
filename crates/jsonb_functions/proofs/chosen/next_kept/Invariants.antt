-- The members that were passed are not kept.
use Rattle.std.proofs.Common.{◌≡◌, ◌≤◌, length}
use Rattle.jsonb_value.specs.Tree.{Pairs}
use Rattle.jsonb_codec.specs.Contents.{AreMembers}
use Rattle.jsonb_codec.specs.PartSource.{items_size}
use Rattle.jsonb_functions.specs.ChosenSource.{kept_pairs}
use Rattle.jsonb_functions.specs.JoinSource.{keys_size}
use Rattle.jsonb_functions.proofs.chosen.next_kept.Given as goal

abbrev pub invariant-loop-first : goal.invariant-loop-first
invariant-loop-first l = record {
  passed : (ps : Pairs) → AreMembers ps l.members
      → (others : Pairs)
      × (AreMembers others l.left × (kept_pairs l.choice ps ≡ kept_pairs l.choice others));
  inside : items_size l.left.values ≤ items_size l.members.values;
  bound : keys_size l.left ≤ keys_size l.members;
}

abbrev pub decreases-loop-first : goal.decreases-loop-first
decreases-loop-first l = length l.left.keys.entries.now
