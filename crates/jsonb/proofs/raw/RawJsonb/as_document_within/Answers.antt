use Rattle.jsonb.proofs.DocumentLaws.{document_tree-is}
use Rattle.jsonb.proofs.raw.RawJsonb.as_document_within.Goals as goal

pub returns-clause-tree : goal.returns-clause-tree
returns-clause-tree c t doc = document_tree-is _ t c.within.result
    (rw c.as_bytes.ensures doc) c.within.ensures.bytes
