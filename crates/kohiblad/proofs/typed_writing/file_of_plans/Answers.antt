use Rattle.std.proofs.Common.{ℕ, inl, inr, sym, subst}
use Rattle.kohiblad.specs.TypedWriting.{BuildsDocuments, BuildsRows, file_result}
use Rattle.kohiblad.proofs.TypedWritingLaws.{refusal, rows_refused}
use Rattle.kohiblad.proofs.typed_writing.file_of_plans.Goals as goal

pub returns-in-Ok : goal.returns-in-Ok
returns-in-Ok c =
    let documents = c.in-Ok.documents.items in
    inr (inl (
      c.in-Ok.ensures.ok.0,
      (
        documents,
        (
          c.in-Ok.ensures.ok.1,
          subst
              (λ ds. BuildsDocuments ds c.args.plans.now (file_result c.file_of_documents.result))
              c.deref.ensures.value c.file_of_documents.ensures,
        ),
      ),
    ))

pub returns-in-Err : goal.returns-in-Err
returns-in-Err c =
    subst (λ (s : ℕ). BuildsRows c.args.depth c.args.rows c.args.plans.now (refusal s))
    (sym c.code.ensures)
    (rows_refused c.args.depth c.args.rows c.args.plans.now c.in-Err.error c.in-Err.ensures.err)
