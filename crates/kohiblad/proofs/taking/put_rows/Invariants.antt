use Rattle.std.proofs.Common.{length}
use Rattle.kohiblad.specs.Taking.{IsTakenBy}
use Rattle.kohiblad.proofs.TakingLaws.{TakenSoFar}
use Rattle.kohiblad.proofs.taking.put_rows.Given as goal

abbrev pub invariant-loop-row : goal.invariant-loop-row
invariant-loop-row g l =
    TakenSoFar (IsTakenBy (g.T.ColumnType.stands l.column_type) l.blank l.reading l.path)
    l.fn.rows l.left l.number l.fn.values l.values l.fn.states l.states

abbrev pub decreases-loop-row : goal.decreases-loop-row
decreases-loop-row g l = length l.left
