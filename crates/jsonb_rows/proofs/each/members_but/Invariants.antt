-- The members so far, and after them those that are left, are all others.
use Rattle.std.proofs.Common.{◌≡◌, length}
use Rattle.jsonb_value.specs.Tree.{Pairs}
use Rattle.jsonb_codec.specs.Contents.{AreMembers}
use Rattle.jsonb_codec.proofs.Building.{pairs_and, seen}
use Rattle.jsonb_rows.specs.Each.{without_name}
use Rattle.jsonb_rows.proofs.each.members_but.Given as goal

abbrev pub invariant-loop-member : goal.invariant-loop-member
invariant-loop-member l =
    (ps : Pairs) → AreMembers ps l.fn.members → (others : Pairs)
    × ((without_name l.name ps ≡ pairs_and (seen l.pairs.items) (without_name l.name others))
    × AreMembers others l.left)

abbrev pub decreases-loop-member : goal.decreases-loop-member
decreases-loop-member l = length l.left.keys.entries.now
