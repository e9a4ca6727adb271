use Rattle.std.proofs.Common.{rules, refl}
use Rattle.jsonb.proofs.DocumentLaws.{tree_of_bytes}
use Rattle.jsonb.proofs.EntryTreeLaws.{items_of-array}
use Rattle.jsonb.proofs.NodeLaws.{no_items}
use Rattle.jsonb.proofs.document.Document.stored_items.Goals as goal

pub returns-in-2147483648-default-clause-tree : goal.returns-in-2147483648-default-clause-tree
returns-in-2147483648-default-clause-tree c = items_of-array _ _ c.items_of.ensures.tree

pub returns-in_default-clause-tree : goal.returns-in_default-clause-tree
returns-in_default-clause-tree c =
    no_items _ _ c.header.result.0 c.header.result.1 (tree_of_bytes _ c.args.self.now refl)
    c.header.ensures.value (search rules)
