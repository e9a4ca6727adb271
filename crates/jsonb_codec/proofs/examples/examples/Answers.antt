use Rattle.jsonb_codec.proofs.ExampleLaws.{canonical_documents, container_documents, no_documents}
use Rattle.jsonb_codec.proofs.ExampleLaws.{scalar_documents, words}
use Rattle.jsonb_codec.proofs.examples.examples.Goals as goal

pub returns : goal.returns
returns c = record {
  scalars = scalar_documents;
  containers = container_documents;
  no_documents = no_documents;
  words = words;
  canonical = canonical_documents;
}
