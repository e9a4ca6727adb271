-- The plans so far are those of the names and types before those that are left.
use Rattle.std.proofs.Common.{map, length}
use Rattle.kohiblad.proofs.TypedWritingLaws.{PlannedSoFar}
use Rattle.kohiblad.proofs.typed_writing.plans_of.Given as goal

abbrev pub invariant-loop-left : goal.invariant-loop-left
invariant-loop-left l =
    PlannedSoFar (map (λ name. name.now) l.names) l.fn.types
    (map (λ name. name.now) l.left) l.types l.plans.items

abbrev pub decreases-loop-left : goal.decreases-loop-left
decreases-loop-left l = length l.left
