use Rattle.std.proofs.Common.{length}
use Rattle.kohiblad.specs.Located.{IsTakenAt}
use Rattle.kohiblad.proofs.TakingLaws.{TakenSoFar}
use Rattle.kohiblad.proofs.located.put_places.Given as goal

abbrev pub invariant-loop-place : goal.invariant-loop-place
invariant-loop-place g l =
    TakenSoFar (IsTakenAt (g.T.ColumnType.stands l.column_type) l.blank l.bytes) l.fn.places l.left
    l.number l.fn.values l.values l.fn.states l.states

abbrev pub decreases-loop-place : goal.decreases-loop-place
decreases-loop-place g l = length l.left
