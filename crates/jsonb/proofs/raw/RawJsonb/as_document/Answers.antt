use Rattle.jsonb.proofs.DocumentLaws.{document_tree-is}
use Rattle.jsonb.proofs.raw.RawJsonb.as_document.Goals as goal

pub returns-clause-tree : goal.returns-clause-tree
returns-clause-tree c t doc = document_tree-is _ t c.new.result
    (rw c.as_bytes.ensures doc) c.new.ensures.bytes
