use Rattle.std.proofs.Common.{ap₂, ◌∙◌}
use Rattle.jsonb_value.specs.Meaning.{meaning_cmp}
use Rattle.jsonb.proofs.DocumentLaws.{document_meaning}
use Rattle.jsonb.proofs.raw.RawJsonb.try_cmp.Goals as goal

pub returns-clause-order : goal.returns-clause-order
returns-clause-order c t u h k = cc (
  c.cmp.ensures,
  c.in_ok-as_document.ensures.tree t h,
  c.in_ok-as_document-2.ensures.tree u k,
)

pub returns-clause-cmp : goal.returns-clause-cmp
returns-clause-cmp c =
    let left = c.in_ok-as_document in let right = c.in_ok-as_document-2 in
    c.cmp.ensures
    ∙ ap₂ meaning_cmp (document_meaning _ left.field-0 left.ensures.bytes)
    (document_meaning _ right.field-0 right.ensures.bytes)
