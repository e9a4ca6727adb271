use Rattle.std.proofs.Common.{ap, ◌∙◌}
use Rattle.std.specs.Prelude.{Option}
use Rattle.jsonb_value.specs.Tree.{Tree}
use Rattle.jsonb_typed.specs.Surveys.{cell_found, member_cell, with_cell}
use Rattle.jsonb_typed.specs.declared.survey.Survey.{Survey}
use Rattle.jsonb_typed.proofs.SurveyLaws.{survey_more}
use Rattle.jsonb_typed.proofs.survey.Survey.of.Goals as goal

-- One more row is counted.
pub loop-row-preserved : goal.loop-row-preserved
loop-row-preserved c =
    c.add_member.ensures
    ∙ ap (λ (m : Option Tree). with_cell c.loop-row.survey (member_cell m)) c.member_of.ensures.value
    ∙ ap (λ (s : Survey). with_cell s (cell_found c.args.path.now c.row-item.result))
    c.loop-row.invariant
    ∙ survey_more c.args.path.now c.args.rows.now c.loop-row.row-index c.row-item.result
    c.loop-row-test.true c.row-item.is
