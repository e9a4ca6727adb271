use Rattle.jsonb_codec.proofs.DocumentLaws.{document_laws_of}
use Rattle.jsonb_codec.proofs.Scalars.{iff_trans}
use Rattle.jsonb_codec.proofs.Steps.{document_within_length}
use Rattle.jsonb_codec.proofs.document.is_document.Goals as goal

pub returns-clause-exact : goal.returns-clause-exact
returns-clause-exact c =
    iff_trans c.is_document_within.ensures (document_within_length c.args.bytes.now)

pub returns-clause-laws : goal.returns-clause-laws
returns-clause-laws c is = document_laws_of _ ((returns-clause-exact c).0 is)
