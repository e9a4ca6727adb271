-- What is left has the same members that are not null.
use Rattle.std.proofs.Common.{◌≡◌, ◌≤◌}
use Rattle.jsonb_value.specs.Tree.{Pairs}
use Rattle.jsonb_codec.specs.Contents.{AreMembers}
use Rattle.jsonb_codec.specs.PartSource.{items_size}
use Rattle.jsonb_functions.specs.Stripped.{members_stripped}
use Rattle.jsonb_functions.proofs.strip.next_kept.Given as goal

abbrev pub invariant-loop-member : goal.invariant-loop-member
invariant-loop-member l = record {
  same : (ps : Pairs) → AreMembers ps l.fn.members
      → (qs : Pairs) × (AreMembers qs l.left × (members_stripped ps ≡ members_stripped qs));
  size : items_size l.left.values ≤ items_size l.fn.members.values;
}

abbrev pub decreases-loop-member : goal.decreases-loop-member
decreases-loop-member l = items_size l.left.values
