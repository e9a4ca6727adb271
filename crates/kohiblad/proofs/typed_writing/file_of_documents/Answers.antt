use Rattle.std.specs.Global.{Vec}
use Rattle.std.proofs.Common.{ℕ, sym, subst}
use Rattle.kohiblad.specs.TypedWriting.{BuildsDocuments}
use Rattle.kohiblad.proofs.TypedWritingLaws.{refusal, write_refused}
use Rattle.kohiblad.proofs.typed_writing.file_of_documents.Goals as goal

pub returns-in-Err : goal.returns-in-Err
returns-in-Err c =
    subst (λ (s : ℕ). BuildsDocuments c.args.documents.now c.args.plans.now (refusal s))
    (sym c.write_code.ensures)
    (write_refused c.args.documents.now c.args.plans.now (Vec ℕ) c.in-Err.error
    c.in-Err.ensures.names c.in-Err.ensures.many c.in-Err.ensures.large)
