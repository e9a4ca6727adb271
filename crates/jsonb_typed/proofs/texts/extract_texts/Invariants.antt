use Rattle.std.proofs.Common.{take}
use Rattle.std.specs.List.{AllZip}
use Rattle.jsonb_typed.specs.Cells.{IsCellAt}
use Rattle.jsonb_typed.specs.Types.{IsText}
use Rattle.jsonb_typed.proofs.texts.extract_texts.Given as goal

abbrev pub invariant-loop-row : goal.invariant-loop-row
invariant-loop-row l =
    AllZip (IsCellAt IsText l.path) (take l.row-index l.rows) l.column
