use Rattle.jsonb_codec.proofs.DocumentLaws.{document_laws_of}
use Rattle.jsonb_codec.proofs.Unique.{Doc-unique, Doc-prefix_free}
use Rattle.jsonb_codec.proofs.laws.document_laws.Goals as goal

pub returns : goal.returns
returns c = record {
  one_tree = Doc-unique;
  prefix_free = λ a c h k. Doc-prefix_free a c h.0 k.0 h.1 k.1;
  documents = document_laws_of;
}
