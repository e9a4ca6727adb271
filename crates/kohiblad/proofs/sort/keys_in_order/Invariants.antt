use Rattle.std.proofs.Common.{length}
use Rattle.jsonb.specs.Within.{meaning_within}
use Rattle.kohiblad.proofs.Orders.{KeysSoFar}
use Rattle.kohiblad.proofs.sort.keys_in_order.Given as goal

abbrev pub invariant-loop-row : goal.invariant-loop-row
invariant-loop-row l = KeysSoFar (meaning_within l.fn.depth) l.fn.rows l.left l.keys.items

abbrev pub decreases-loop-row : goal.decreases-loop-row
decreases-loop-row l = length l.left
