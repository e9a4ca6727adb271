use Rattle.std.proofs.Common.{◌≡◌, ◌+◌, ◌*◌, length}
use Rattle.jsonb_value.specs.Tree.{Trees, Pairs, count}
use Rattle.jsonb_codec.specs.Contents.{AreChildren, AreMembers}
use Rattle.jsonb_rows.specs.Each.{leads, some_item, some_member}
use Rattle.jsonb_rows.specs.Reach.{leads_to_item, leads_to_member}
use Rattle.jsonb_rows.proofs.each.+leads.Given as goal

abbrev pub decreases-leads_from : goal.decreases-leads_from
decreases-leads_from l = 3 * length l.path.now

abbrev pub decreases-leads_if : goal.decreases-leads_if
decreases-leads_if l = 3 * length l.rest.now + 1

abbrev pub decreases-some_item : goal.decreases-some_item
decreases-some_item l = 3 * length l.rest.now + 2

abbrev pub decreases-some_member : goal.decreases-some_member
decreases-some_member l = 3 * length l.rest.now + 2

-- No item so far leads on.
abbrev pub invariant-some_item-loop-child : goal.invariant-some_item-loop-child
invariant-some_item-loop-child l = record {
  left : (ts : Trees) → AreChildren ts l.fn.items → (others : Trees)
      × ((some_item (leads_to_item l.step (count ts)) (leads l.rest) 0 ts
      ≡ some_item (leads_to_item l.step (count ts)) (leads l.rest) l.index others)
      × AreChildren others l.left);
  place : 4 * l.index + length l.left.entries.now ≡ length l.fn.items.entries.now;
}

abbrev pub decreases-some_item-loop-child : goal.decreases-some_item-loop-child
decreases-some_item-loop-child l = length l.left.entries.now

-- No member so far leads on.
abbrev pub invariant-some_member-loop-member : goal.invariant-some_member-loop-member
invariant-some_member-loop-member l =
    (ps : Pairs) → AreMembers ps l.fn.members → (others : Pairs)
    × ((some_member (leads_to_member l.step) (leads l.rest) ps
    ≡ some_member (leads_to_member l.step) (leads l.rest) others)
    × AreMembers others l.left)

abbrev pub decreases-some_member-loop-member : goal.decreases-some_member-loop-member
decreases-some_member-loop-member l = length l.left.keys.entries.now
