use Rattle.std.proofs.Common.{ap, ◌∙◌}
use Rattle.jsonb.specs.Kind.{kind}
use Rattle.jsonb.proofs.KindLaws.{kind-Doc}
use Rattle.jsonb.proofs.raw.RawJsonb.jsonb_item_type.Goals as goal

pub returns-clause-document : goal.returns-clause-document
returns-clause-document c = λ t h. c.kind_of.ensures ∙ ap kind c.as_bytes.ensures ∙ kind-Doc _ t h
