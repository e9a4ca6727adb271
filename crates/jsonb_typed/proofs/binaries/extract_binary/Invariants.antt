use Rattle.std.proofs.Common.{take}
use Rattle.std.specs.List.{AllZip}
use Rattle.jsonb_typed.specs.Cells.{IsCellAt}
use Rattle.jsonb_typed.specs.Types.{IsBinary}
use Rattle.jsonb_typed.proofs.binaries.extract_binary.Given as goal

abbrev pub invariant-loop-row : goal.invariant-loop-row
invariant-loop-row l =
    AllZip (IsCellAt IsBinary l.path) (take l.row-index l.rows) l.column
