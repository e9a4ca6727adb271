use Rattle.std.proofs.Common.{subst, sym, ◌∙◌}
use Rattle.jsonb_codec.specs.Parts.{IsPayloadOf}
use Rattle.jsonb.proofs.EntryTreeLaws.{entry_tree-is}
use Rattle.jsonb.specs.Entry.{entry_there}
use Rattle.jsonb_functions.proofs.places.node_at_place.Goals as goal

pub returns-clause-tree : goal.returns-clause-tree
returns-clause-tree c =
    let t = c.requires.0 in
    let type = c.args.place.type_code in
    let payload = (entry_there c.args.bytes.now c.args.place).payload in
    c.of_part.ensures.means t
    (subst (λ b. IsPayloadOf c.args.place.type_code b t) (sym c.bytes_at.ensures.bytes)
    c.requires.2)
    ∙ sym (entry_tree-is type payload t c.requires.2)
