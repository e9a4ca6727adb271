use Rattle.std.proofs.Common.{◌≡◌, length}
use Rattle.kohiblad.specs.Rows.{are_offsets}
use Rattle.kohiblad.proofs.rows.are_offsets.Given as goal

abbrev pub invariant-loop-end : goal.invariant-loop-end
invariant-loop-end l = are_offsets l.size l.start l.left ≡ are_offsets l.size 0 l.offsets

abbrev pub decreases-loop-end : goal.decreases-loop-end
decreases-loop-end l = length l.left
