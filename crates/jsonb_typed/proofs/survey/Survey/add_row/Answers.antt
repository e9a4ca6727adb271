use Rattle.std.proofs.Common.{ap, ◌∙◌}
use Rattle.std.specs.Prelude.{Option}
use Rattle.jsonb_value.specs.Tree.{Tree}
use Rattle.jsonb_typed.specs.Surveys.{cell_found, member_cell, with_cell}
use Rattle.jsonb_typed.proofs.SurveyLaws.{cell_of_document}
use Rattle.jsonb_typed.proofs.survey.Survey.add_row.Goals as goal

pub returns-in-Some-clause-counted : goal.returns-in-Some-clause-counted
returns-in-Some-clause-counted c =
    let row = c.in-Some.document in (
      cell_found c.args.path.now row,
      (
        cell_of_document c.args.path.now c.args.row.now row c.in-Some.ensures.bytes,
        c.add_member.ensures
            ∙ ap (λ (m : Option Tree). with_cell c.args.self.now (member_cell m))
            c.member_of.ensures.value,
      ),
    )
