use Rattle.jsonb_functions.proofs.PathDocumentLaws.{path_means, path_read}
use Rattle.jsonb_functions.proofs.laws.path_document_laws.Goals as goal

pub returns : goal.returns
returns c = record { means = path_means; read = path_read }
