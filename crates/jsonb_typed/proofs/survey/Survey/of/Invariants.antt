-- The rows so far are counted.
use Rattle.std.proofs.Common.{◌≡◌, map, take}
use Rattle.jsonb_typed.specs.Surveys.{cell_found, survey_of}
use Rattle.jsonb_typed.proofs.survey.Survey.of.Given as goal

abbrev pub invariant-loop-row : goal.invariant-loop-row
invariant-loop-row l = l.survey ≡ survey_of (map (cell_found l.path) (take l.row-index l.rows))
