-- The name is of no member so far.
use Rattle.std.proofs.Common.{◌≡◌, length}
use Rattle.jsonb_value.specs.Tree.{Pairs}
use Rattle.jsonb_codec.specs.Contents.{AreMembers}
use Rattle.jsonb_rows.specs.Each.{value_of_name}
use Rattle.jsonb_rows.proofs.each.member_named.Given as goal

abbrev pub invariant-loop-member : goal.invariant-loop-member
invariant-loop-member l =
    (ps : Pairs) → AreMembers ps l.fn.members → (others : Pairs)
    × ((value_of_name l.name ps ≡ value_of_name l.name others) × AreMembers others l.left)

abbrev pub decreases-loop-member : goal.decreases-loop-member
decreases-loop-member l = length l.left.keys.entries.now
