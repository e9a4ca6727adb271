use Rattle.std.proofs.Common.{◌≡◌, true, Err, length, List, inr, subst, ◌∙◌, rules}
use Rattle.jsonb.specs.Within.{meaning_within}
use Rattle.jsonb_functions.specs.declared.path.Step.{Step}
use Rattle.kohiblad.specs.Rows.{are_offsets}
use Rattle.typed_vector.specs.Cells.{rows}
use Rattle.kohiblad.specs.TakenTexts.{AreTextsMade, IsBytesRow}
use Rattle.kohiblad.proofs.OverRowsLaws.{not_refused, same_path}
use Rattle.kohiblad.proofs.taking_texts.source_texts.Goals as goal

pub returns-in-Ok-steps_of : goal.returns-in-Ok-steps_of
returns-in-Ok-steps_of c =
    let source = c.args.source in
    let good : are_offsets (length source.bytes.now) 0 source.offsets.now ≡ true = search rules in
    let all : c.in-Ok.rows ≡ rows source.bytes.now source.offsets.now = search rules in
    inr (
      good,
      same_path _ (λ status. c.row_texts.result ≡ Err status) _
          (λ path. AreTextsMade (IsBytesRow source.reading c.args.bytes_type path)
          (rows source.bytes.now source.offsets.now) c.row_texts.result)
          (λ status refused. absurd (not_refused c.in-Ok-steps_of.steps status refused))
          (λ path is.
          subst
          (λ (path : List Step).
          AreTextsMade (IsBytesRow source.reading c.args.bytes_type path)
          (rows source.bytes.now source.offsets.now) c.row_texts.result)
          (c.deref.ensures.value ∙ is) (rw all at c.row_texts.ensures))
          (meaning_within source.depth source.path.now) c.in-Ok-steps_of.ensures,
    )
