use Rattle.std.proofs.Common.{refl, ap, ◌∙◌}
use Rattle.jsonb_codec.specs.Doc.{IsDocument}
use Rattle.jsonb.specs.Raw.{raw_bytes}
use Rattle.jsonb.specs.Storage.{pair_of}
use Rattle.jsonb.proofs.StorageLaws.{document_code-part}
use Rattle.jsonb.proofs.code.document_part.Goals as goal

pub returns : goal.returns
returns c =
    let bytes = c.in_ok-new.ensures.bytes ∙ c.as_bytes.ensures in
    let (t, h) : IsDocument (raw_bytes c.args.raw) =
    rw c.as_bytes.ensures at (c.in_ok-new.ensures.exact.0 refl) in
    let is = c.part.ensures.means t (rw bytes h) in (
      (λ some. (t, h), λ found. refl),
      λ some. ap pair_of (document_code-part _ t _ _ h is (c.part.ensures.bytes ∙ bytes)),
    )
