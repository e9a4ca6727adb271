-- As many places were passed as the room is smaller.
use Rattle.std.proofs.Common.{◌≡◌, ◌+◌, length}
use Rattle.kohiblad.proofs.located.Places.fit_in.Given as goal

abbrev pub invariant-loop-left : goal.invariant-loop-left
invariant-loop-left l = l.room + length l.self ≡ l.fn.room + length l.left

abbrev pub decreases-loop-left : goal.decreases-loop-left
decreases-loop-left l = length l.left
