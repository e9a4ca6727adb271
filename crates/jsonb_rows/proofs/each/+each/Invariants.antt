use Rattle.std.proofs.Common.{◌≡◌, ◌+◌, ◌*◌, length, map}
use Rattle.jsonb_value.specs.Tree.{Trees, Pairs, count}
use Rattle.jsonb_value.specs.Value.{tree_of}
use Rattle.jsonb_codec.specs.Contents.{AreChildren, AreMembers}
use Rattle.jsonb_codec.proofs.Building.{pairs_and, seen, trees_and}
use Rattle.jsonb_rows.specs.Each.{child_edited, operation_of, with_items, with_members}
use Rattle.jsonb_rows.specs.Reach.{leads_to_item, leads_to_member}
use Rattle.jsonb_rows.proofs.each.+each.Given as goal

abbrev pub decreases-edited_child : goal.decreases-edited_child
decreases-edited_child l = 3 * length l.path.now

abbrev pub decreases-edited_if : goal.decreases-edited_if
decreases-edited_if l = 3 * length l.rest.now + 1

abbrev pub decreases-edited_items : goal.decreases-edited_items
decreases-edited_items l = 3 * length l.rest.now + 2

abbrev pub decreases-edited_members : goal.decreases-edited_members
decreases-edited_members l = 3 * length l.rest.now + 2

-- The values so far, and after them those of the items that are left, are all values.
abbrev pub invariant-edited_items-loop-child : goal.invariant-edited_items-loop-child
invariant-edited_items-loop-child l =
    let f = child_edited l.rest (operation_of l.edit) in record {
      left : (ts : Trees) → AreChildren ts l.fn.items → (others : Trees)
          × ((with_items (leads_to_item l.step (count ts)) f 0 ts
          ≡ trees_and (map tree_of l.values.items)
          (with_items (leads_to_item l.step (count ts)) f l.index others))
          × AreChildren others l.left);
      place : 4 * l.index + length l.left.entries.now ≡ length l.fn.items.entries.now;
    }

abbrev pub decreases-edited_items-loop-child : goal.decreases-edited_items-loop-child
decreases-edited_items-loop-child l = length l.left.entries.now

-- The members so far, and after them those that are left, are all members.
abbrev pub invariant-edited_members-loop-member : goal.invariant-edited_members-loop-member
invariant-edited_members-loop-member l =
    let f = child_edited l.rest (operation_of l.edit) in
    (ps : Pairs) → AreMembers ps l.fn.members → (others : Pairs)
    × ((with_members (leads_to_member l.step) f ps
    ≡ pairs_and (seen l.pairs.items) (with_members (leads_to_member l.step) f others))
    × AreMembers others l.left)

abbrev pub decreases-edited_members-loop-member : goal.decreases-edited_members-loop-member
decreases-edited_members-loop-member l = length l.left.keys.entries.now
