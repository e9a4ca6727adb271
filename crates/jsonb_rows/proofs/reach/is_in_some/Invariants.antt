-- No range so far has the item.
use Rattle.std.proofs.Common.{◌≡◌, length}
use Rattle.std.specs.List.{list_any}
use Rattle.jsonb_rows.specs.Reach.{is_in_range}
use Rattle.jsonb_rows.proofs.reach.is_in_some.Given as goal

abbrev pub invariant-loop-left : goal.invariant-loop-left
invariant-loop-left l =
    list_any (λ range. is_in_range range l.count l.index) l.ranges
    ≡ list_any (λ range. is_in_range range l.count l.index) l.left

abbrev pub decreases-loop-left : goal.decreases-loop-left
decreases-loop-left l = length l.left
