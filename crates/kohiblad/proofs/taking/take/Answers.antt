use Rattle.std.proofs.Common.{◌≡◌, true, length, List, inr, subst, ◌∙◌, rules}
use Rattle.jsonb.specs.Within.{meaning_within}
use Rattle.jsonb_functions.specs.declared.path.Step.{Step}
use Rattle.kohiblad.specs.Rows.{are_offsets}
use Rattle.typed_vector.specs.Cells.{rows}
use Rattle.kohiblad.specs.Taking.{AreKept, AreRowsTaken, IsTakenBy, not_taken, outputs}
use Rattle.kohiblad.proofs.OverRowsLaws.{not_refused, same_path}
use Rattle.kohiblad.proofs.taking.take.Goals as goal

pub returns-in-Ok-steps_of : goal.returns-in-Ok-steps_of
returns-in-Ok-steps_of g c =
    let source = c.args.source in
    let good : are_offsets (length source.bytes.now) 0 source.offsets.now ≡ true = search rules in
    let all : c.in-Ok.rows ≡ rows source.bytes.now source.offsets.now = search rules in
    inr (
      good,
      same_path _
          (λ status. (c.take_rows.result ≡ not_taken status)
          × AreKept (outputs c.args.values.now c.take_rows.new.values c.args.states.now c.take_rows.new.states))
          _
          (λ path. AreRowsTaken
          (IsTakenBy (g.T.ColumnType.stands c.args.column_type.now)
          (g.T.ColumnType.blank c.args.column_type.now) source.reading path)
          (rows source.bytes.now source.offsets.now)
          (outputs c.args.values.now c.take_rows.new.values c.args.states.now c.take_rows.new.states) c.take_rows.result)
          (λ status refused. absurd (not_refused c.in-Ok-steps_of.steps status refused))
          (λ path is.
          subst
          (λ (path : List Step). AreRowsTaken
          (IsTakenBy (g.T.ColumnType.stands c.args.column_type.now)
          (g.T.ColumnType.blank c.args.column_type.now) source.reading path)
          (rows source.bytes.now source.offsets.now)
          (outputs c.args.values.now c.take_rows.new.values c.args.states.now c.take_rows.new.states) c.take_rows.result)
          (c.deref.ensures.value ∙ is) (rw c.blank.ensures at (rw all at c.take_rows.ensures)))
          (meaning_within source.depth source.path.now) c.in-Ok-steps_of.ensures,
    )

pub take_rows-requires : goal.take_rows-requires
take_rows-requires g c = g.T.ColumnType.scalars c.args.column_type.now
