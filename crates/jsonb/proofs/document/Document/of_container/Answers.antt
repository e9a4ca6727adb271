use Rattle.std.proofs.Common.{inr, ◌∙◌}
use Rattle.jsonb.proofs.DocumentLaws.{tree_in-is}
use Rattle.jsonb.proofs.document.Document.of_container.Goals as goal

pub returns-clause-tree : goal.returns-clause-tree
returns-clause-tree c t h =
    tree_in-is _ t (inr (h.0 ∙ c.requires, rw c.of_container.ensures h.1))
