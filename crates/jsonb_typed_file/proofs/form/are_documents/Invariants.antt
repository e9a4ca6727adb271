-- The rests so far are documents.
use Rattle.std.proofs.Common.{◌<◌, ℕ}
use Rattle.jsonb_typed_file.specs.File.{IsRestAt}
use Rattle.jsonb_typed_file.proofs.form.are_documents.Given as goal

abbrev pub invariant-loop-index : goal.invariant-loop-index
invariant-loop-index l =
    (index : ℕ) → index < l.index → IsRestAt l.rests.offsets.now l.rests.bytes.now index
