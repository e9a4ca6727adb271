-- The rests so far, if they are documents, nest no deeper.
use Rattle.std.proofs.Common.{◌<◌, ℕ}
use Rattle.jsonb_codec.specs.Depth.{IsDocumentWithin}
use Rattle.jsonb_typed_file.specs.File.{IsRestAt}
use Rattle.jsonb_typed_file.specs.Values.{string_at}
use Rattle.jsonb_typed_file.proofs.form.rests_nest_deeper.Given as goal

abbrev pub invariant-loop-index : goal.invariant-loop-index
invariant-loop-index l = (index : ℕ) → index < l.index
    → IsRestAt l.rests.offsets.now l.rests.bytes.now index
    → IsDocumentWithin l.depth (string_at l.rests.offsets.now l.rests.bytes.now index)
