-- What was counted and what is left make the whole.
use Rattle.std.proofs.Common.{◌≡◌, ◌≤◌, ◌+◌}
use Rattle.jsonb_value.specs.Tree.{Pairs, pair_count}
use Rattle.jsonb_codec.specs.Contents.{AreMembers}
use Rattle.jsonb_codec.specs.PartSource.{items_size}
use Rattle.jsonb_functions.specs.Stripped.{members_stripped}
use Rattle.jsonb_functions.proofs.strip.count_kept.Given as goal

abbrev pub invariant-loop-member : goal.invariant-loop-member
invariant-loop-member l = record {
  counted : (ps : Pairs) → AreMembers ps l.fn.members
      → (qs : Pairs) × (AreMembers qs l.left
      × (pair_count (members_stripped ps) ≡ l.count + pair_count (members_stripped qs)));
  bound : l.count + items_size l.left.values ≤ items_size l.fn.members.values;
}

abbrev pub decreases-loop-member : goal.decreases-loop-member
decreases-loop-member l = items_size l.left.values
