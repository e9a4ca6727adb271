use Rattle.std.proofs.Common.{ap, ◌∙◌}
use Rattle.jsonb.specs.Storage.{pair_of}
use Rattle.jsonb.proofs.StorageLaws.{document_code-part}
use Rattle.jsonb.proofs.code.document_code.Goals as goal

pub returns : goal.returns
returns c =
    let (t, h) = c.requires in
    let is = c.part.ensures.means t (rw c.new_unchecked.ensures h) in
    c.part_code.ensures ∙ ap pair_of (document_code-part _ t _ _ h is
    (c.part.ensures.bytes ∙ c.new_unchecked.ensures))
