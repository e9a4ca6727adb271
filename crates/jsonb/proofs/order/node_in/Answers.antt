use Rattle.jsonb.proofs.DocumentLaws.{document_meaning, no_document}
use Rattle.jsonb.proofs.ItemMeaningLaws.{meaning_of-other}
use Rattle.jsonb.proofs.order.node_in.Goals as goal

pub returns-in-Some-clause-means : goal.returns-in-Some-clause-means
returns-in-Some-clause-means c = cc (
  document_meaning _ c.in-Some.document c.in-Some.ensures.bytes,
  c.node.ensures.tree,
)

pub returns-in-None-clause-means : goal.returns-in-None-clause-means
returns-in-None-clause-means c = meaning_of-other _ (no_document _ c.in-None.ensures.exact)
