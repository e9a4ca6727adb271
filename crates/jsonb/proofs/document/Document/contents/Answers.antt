use Rattle.std.proofs.Common.{rules, refl}
use Rattle.jsonb.proofs.DocumentLaws.{tree_of_bytes}
use Rattle.jsonb.proofs.NodeLaws.{scalar_opened}
use Rattle.jsonb.proofs.document.Document.contents.Goals as goal

pub returns-in_default-clause-tree : goal.returns-in_default-clause-tree
returns-in_default-clause-tree c =
    scalar_opened _ _ c.header.result.0 c.header.result.1 (tree_of_bytes _ c.args.self.now refl)
    c.header.ensures.value (search rules) (search rules)
