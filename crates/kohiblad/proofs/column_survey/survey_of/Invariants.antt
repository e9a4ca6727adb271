-- What is counted, and then the rows that are left, make the survey.
use Rattle.std.proofs.Common.{◌≡◌, length, map}
use Rattle.std.specs.Prelude.{fold}
use Rattle.jsonb_typed.specs.Surveys.{survey_of, with_cell}
use Rattle.kohiblad.specs.RowCells.{row_cell}
use Rattle.kohiblad.proofs.column_survey.survey_of.Given as goal

abbrev pub invariant-loop-row : goal.invariant-loop-row
invariant-loop-row l = fold with_cell l.survey (map (row_cell l.depth l.path) l.left)
    ≡ survey_of (map (row_cell l.depth l.path) l.fn.rows)

abbrev pub decreases-loop-row : goal.decreases-loop-row
decreases-loop-row l = length l.left
