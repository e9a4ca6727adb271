-- Containers are made for all steps if they are for those that are left.
use Rattle.std.proofs.Common.{◌≡◌, length}
use Rattle.jsonb_functions.specs.Edited.{can_wrap}
use Rattle.jsonb_functions.proofs.edit.can_wrap.Given as goal

abbrev pub invariant-loop-left : goal.invariant-loop-left
invariant-loop-left l = can_wrap l.fn.path ≡ can_wrap l.left

abbrev pub decreases-loop-left : goal.decreases-loop-left
decreases-loop-left l = length l.left
