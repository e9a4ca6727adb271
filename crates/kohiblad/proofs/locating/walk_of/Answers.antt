use Rattle.std.proofs.Common.{sym, subst, ◌∙◌}
use Rattle.jsonb_codec.proofs.Scalars.{empty_test}
use Rattle.kohiblad.specs.Locating.{IsLocated, IsValueOfName}
use Rattle.kohiblad.specs.declared.taking.Reading.{Reading}
use Rattle.kohiblad.proofs.LocatingLaws.{empty_located}
use Rattle.kohiblad.proofs.UncheckedLaws.{no_document}
use Rattle.kohiblad.proofs.locating.walk_of.Goals as goal

pub returns-in-Document-clause-some : goal.returns-in-Document-clause-some
returns-in-Document-clause-some c empty =
    no_document c.as_bytes.result.now _ c.as_bytes.ensures.document
    (c.as_bytes.ensures.bytes ∙ c.in-Document.ensures.bytes ∙ empty)

pub returns-then-is_empty-clause-same : goal.returns-then-is_empty-clause-same
returns-then-is_empty-clause-same c bytes name =
    subst (λ (r : Reading). IsLocated r bytes c.args.row.now name c.no_place.result)
    (sym c.in-Unchecked.is)
    (empty_located c.args.row.now c.no_place.result
    ((empty_test _ c.args.row.now c.is_empty.ensures).0 c.if-is_empty.true) c.no_place.ensures
    bytes name)

pub returns-then-is_empty-clause-other : goal.returns-then-is_empty-clause-other
returns-then-is_empty-clause-other c start name =
    subst (λ (r : Reading). IsValueOfName r start c.args.row.now name c.no_place.result)
    (sym c.in-Unchecked.is)
    (λ t document. absurd (no_document c.args.row.now t document
    ((empty_test _ c.args.row.now c.is_empty.ensures).0 c.if-is_empty.true)))
