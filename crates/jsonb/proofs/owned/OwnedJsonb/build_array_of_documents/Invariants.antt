use Rattle.std.proofs.Common.{map}
use Rattle.jsonb.specs.Gathering.{IsGathered}
use Rattle.jsonb.proofs.DocumentInputLaws.{document_view, entry_of_document, has_entry}
use Rattle.jsonb.proofs.owned.OwnedJsonb.build_array_of_documents.Given as goal

abbrev pub invariant-loop-document : goal.invariant-loop-document
invariant-loop-document g l =
    IsGathered has_entry entry_of_document l.documents (map document_view l.yielded)
