use Rattle.std.proofs.Common.{refl}
use Rattle.jsonb.proofs.DocumentLaws.{tree_of_bytes}
use Rattle.jsonb.proofs.NodeLaws.{array_opened}
use Rattle.jsonb.proofs.document.Document.items_of.Goals as goal

pub new-requires : goal.new-requires
new-requires c =
    rw (c.over_items.ensures, c.as_bytes.ensures.bytes)
    (array_opened _ _ _ (tree_of_bytes _ c.args.self.now refl) c.requires.header).parts

pub returns-clause-tree : goal.returns-clause-tree
returns-clause-tree c =
    rw (c.new.ensures, c.over_items.ensures, c.as_bytes.ensures.bytes)
    (array_opened _ _ _ (tree_of_bytes _ c.args.self.now refl) c.requires.header).tree

pub returns-clause-entries : goal.returns-clause-entries
returns-clause-entries c =
    rw (c.new.ensures, c.over_items.ensures, c.as_bytes.ensures.bytes)
    (array_opened _ _ _ (tree_of_bytes _ c.args.self.now refl) c.requires.header).stored
