use Rattle.jsonb_codec.proofs.Scalars.{empty_test}
use Rattle.kohiblad.proofs.UncheckedLaws.{no_document}
use Rattle.kohiblad.proofs.unchecked_rows.unchecked_member.Goals as goal

pub returns-then-is_empty-clause-document : goal.returns-then-is_empty-clause-document
returns-then-is_empty-clause-document c = λ t document.
    absurd (no_document c.args.row.now t document
    ((empty_test _ c.args.row.now c.is_empty.ensures).0 c.if-is_empty.true))
