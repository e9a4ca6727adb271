use Rattle.std.proofs.Common.{◌≡◌, ◌+◌, ◌*◌, ◌≤◌, length, map}
use Rattle.jsonb_value.specs.Tree.{Trees, Pairs}
use Rattle.jsonb_value.specs.Value.{tree_of}
use Rattle.jsonb_codec.specs.Contents.{AreChildren, AreMembers}
use Rattle.jsonb_codec.proofs.Building.{trees_and, pairs_and, seen}
use Rattle.jsonb_codec.proofs.de.+value.Given as goal

abbrev pub decreases-insert_part : goal.decreases-insert_part
decreases-insert_part l = 4 * length l.part.payload.now + 3

abbrev pub decreases-push_pair : goal.decreases-push_pair
decreases-push_pair l = 4 * length l.part.payload.now + 3

abbrev pub decreases-push_part : goal.decreases-push_part
decreases-push_part l = 4 * length l.part.payload.now + 3

abbrev pub decreases-build_container : goal.decreases-build_container
decreases-build_container l = 4 * length l.part.payload.now + 2

abbrev pub decreases-build_items : goal.decreases-build_items
decreases-build_items l = 4 * length l.items.payloads.now + 4

abbrev pub decreases-build_members : goal.decreases-build_members
decreases-build_members l = 4 * length l.members.values.payloads.now + 5

abbrev pub decreases-build_many : goal.decreases-build_many
decreases-build_many l = 4 * length l.members.values.payloads.now + 4

-- The items built so far and those that are left are all items.
abbrev pub invariant-build_items-loop-child : goal.invariant-build_items-loop-child
invariant-build_items-loop-child l = record {
  left : (ts : Trees) → AreChildren ts l.fn.items → (others : Trees)
      × ((ts ≡ trees_and (map tree_of l.built.items) others) × AreChildren others l.left);
  shorter : length l.left.payloads.now ≤ length l.fn.items.payloads.now;
}

abbrev pub decreases-build_items-loop-child : goal.decreases-build_items-loop-child
decreases-build_items-loop-child l = length l.left.entries.now

-- The members built so far and those that are left are all members.
abbrev pub invariant-build_members-loop-member : goal.invariant-build_members-loop-member
invariant-build_members-loop-member l = record {
  left : (ps : Pairs) → AreMembers ps l.fn.members → (others : Pairs)
      × ((ps ≡ pairs_and (seen l.built.entries) others) × AreMembers others l.left);
  shorter : length l.left.values.payloads.now ≤ length l.fn.members.values.payloads.now;
}

abbrev pub decreases-build_members-loop-member : goal.decreases-build_members-loop-member
decreases-build_members-loop-member l = length l.left.keys.entries.now

abbrev pub invariant-build_many-loop-member : goal.invariant-build_many-loop-member
invariant-build_many-loop-member l = record {
  left : (ps : Pairs) → AreMembers ps l.fn.members → (others : Pairs)
      × ((ps ≡ pairs_and (seen l.built.items) others) × AreMembers others l.left);
  shorter : length l.left.values.payloads.now ≤ length l.fn.members.values.payloads.now;
}

abbrev pub decreases-build_many-loop-member : goal.decreases-build_many-loop-member
decreases-build_many-loop-member l = length l.left.keys.entries.now
