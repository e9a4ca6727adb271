use Rattle.std.proofs.Common.{Ok, rules, refl, sym, ap, ◌∙◌}
use Rattle.jsonb.proofs.DocumentLaws.{tree_of_bytes}
use Rattle.jsonb.proofs.NodeLaws.{array_or_object}
use Rattle.jsonb.proofs.document.Document.container_contents.Goals as goal

pub items_of-requires-clause-header : goal.items_of-requires-clause-header
items_of-requires-clause-header c =
    ap (λ kind. Ok (kind, c.header.result.1))
    (sym (array_or_object _ _ c.header.result.0 c.header.result.1
    (tree_of_bytes _ c.args.self.now refl) c.header.ensures.value c.requires (search rules)))
    ∙ c.header.ensures.value
