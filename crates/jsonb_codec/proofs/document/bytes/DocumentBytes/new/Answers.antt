use Rattle.jsonb_codec.proofs.Scalars.{iff_trans}
use Rattle.jsonb_codec.proofs.Steps.{document_within_length}
use Rattle.jsonb_codec.proofs.document.bytes.DocumentBytes.new.Goals as goal

pub returns-clause-exact : goal.returns-clause-exact
returns-clause-exact c = iff_trans c.within.ensures.exact (document_within_length _)
