use Rattle.std.proofs.Common.{map}
use Rattle.std.specs.List.{IsDistinct}
use Rattle.std.specs.Map.{keys_of}
use Rattle.std.specs.Str.{bytes_eq}
use Rattle.jsonb.specs.Building.{in_order}
use Rattle.jsonb.specs.Children.{AreShownAt}
use Rattle.jsonb.specs.Results.{document_pair, raw_pairs}
use Rattle.jsonb.proofs.DocumentInputLaws.{has_entry, entry_of_document}
use Rattle.jsonb.proofs.owned.OwnedJsonb.build_object_of_documents.Given as goal

-- The documents so far were inserted, and their keys are distinct.
abbrev pub invariant-loop-key : goal.invariant-loop-key
invariant-loop-key g l = record {
  shown : AreShownAt has_entry entry_of_document l.members.entries
      (raw_pairs (in_order (map document_pair l.yielded)));
  distinct : IsDistinct bytes_eq (keys_of (map document_pair l.yielded));
}
