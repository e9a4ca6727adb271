use Rattle.std.proofs.Common.{take}
use Rattle.std.specs.List.{AllZip}
use Rattle.jsonb_typed.specs.Cells.{IsCellAt}
use Rattle.jsonb_typed.proofs.columns.extract.Given as goal

abbrev pub invariant-loop-row : goal.invariant-loop-row
invariant-loop-row g l =
    AllZip (IsCellAt (g.T.ColumnType.stands l.column_type) l.path) (take l.row-index l.rows)
    l.column
