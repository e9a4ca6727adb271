use Rattle.std.proofs.Common.{◌≡◌, sym, subst, ◌∙◌}
use Rattle.jsonb.specs.Document.{document_tree}
use Rattle.jsonb_functions.specs.PathPlaces.{tree_there}
use Rattle.jsonb_functions.specs.PlaceWalks.{IsPart}
use Rattle.jsonb_functions.proofs.PathPlaceLaws.{whole_part, whole_read, whole_tree}
use Rattle.jsonb_functions.proofs.selection.whole_of.Goals as goal

pub unreachable-requires : goal.unreachable-requires
unreachable-requires c =
    whole_read c.as_bytes.result.now (document_tree c.args.document) c.in_default.field-0
    c.as_bytes.ensures.document (sym c.in_default.is ∙ c.whole_place.ensures.value)

pub returns-clause-part : goal.returns-clause-part
returns-clause-part c =
    subst (λ b. IsPart b c.in-Ok.whole) c.as_bytes.ensures.bytes
    (whole_part c.as_bytes.result.now (document_tree c.args.document) c.in-Ok.whole
    c.as_bytes.ensures.document (sym c.in-Ok.is ∙ c.whole_place.ensures.value))

pub returns-clause-tree : goal.returns-clause-tree
returns-clause-tree c =
    subst (λ b. tree_there b c.in-Ok.whole ≡ document_tree c.args.document) c.as_bytes.ensures.bytes
    (whole_tree c.as_bytes.result.now (document_tree c.args.document) c.in-Ok.whole
    c.as_bytes.ensures.document (sym c.in-Ok.is ∙ c.whole_place.ensures.value))
