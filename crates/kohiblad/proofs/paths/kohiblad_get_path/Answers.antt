use Rattle.jsonb_functions.proofs.PathPlaceLaws.{place_holds}
use Rattle.kohiblad.proofs.paths.kohiblad_get_path.Goals as goal

pub returns-then-not-is_document_within-clause-document :
    goal.returns-then-not-is_document_within-clause-document
returns-then-not-is_document_within-clause-document c =
    λ t steps document. place_holds c.args.bytes.now t steps document

pub returns-in-Document-clause-document : goal.returns-in-Document-clause-document
returns-in-Document-clause-document c =
    λ t steps document. place_holds c.args.bytes.now t steps document

pub returns-in-Other-clause-document : goal.returns-in-Other-clause-document
returns-in-Other-clause-document c =
    λ t steps document. place_holds c.args.bytes.now t steps document
