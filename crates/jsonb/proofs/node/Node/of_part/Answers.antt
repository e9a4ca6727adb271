use Rattle.std.proofs.Common.{rules, ap, subst, ◌∙◌}
use Rattle.std.specs.Str.{IsUtf8}
use Rattle.jsonb_codec.specs.Doc.{type_of}
use Rattle.jsonb_codec.proofs.Decision.{known_part}
use Rattle.jsonb.proofs.ItemLaws.{item_of-text}
use Rattle.jsonb.proofs.NodeLaws.{container_part, container_item}
use Rattle.jsonb.proofs.node.Node.of_part.Goals as goal

pub returns-in-268435456-clause-item : goal.returns-in-268435456-clause-item
returns-in-268435456-clause-item c =
    cc (
      item_of-text c.args.part.payload.now (subst IsUtf8 c.text.ensures.bytes c.text.utf8),
      c.text.ensures.bytes,
      c.in-268435456.is,
    )

pub returns-in_default-clause-item : goal.returns-in_default-clause-item
returns-in_default-clause-item c =
    let part = c.args.part in
    let (t, is) = known_part part.type_code part.payload.now part.fact in
    container_item part.type_code part.payload.now _
    (container_part part.type_code part.payload.now t is (search rules) (search rules)
    (search rules) (search rules) (search rules) (search rules)) c.of_container.ensures.bytes

pub returns-in_default-clause-container : goal.returns-in_default-clause-container
returns-in_default-clause-container c =
    let part = c.args.part in
    let (t, is) = known_part part.type_code part.payload.now part.fact in
    ap type_of (c.of_container.ensures.tree t is) ∙ is.0
    ∙ container_part part.type_code part.payload.now t is (search rules) (search rules)
    (search rules) (search rules) (search rules) (search rules)
