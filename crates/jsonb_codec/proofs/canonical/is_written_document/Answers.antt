use Rattle.std.proofs.Common.{sym, subst, ◌∙◌, arith}
use Rattle.jsonb_codec.specs.Doc.{Doc}
use Rattle.jsonb_codec.proofs.Scalars.{iff_trans}
use Rattle.jsonb_codec.proofs.CanonicalSteps.{written_document}
use Rattle.jsonb_codec.proofs.canonical.is_written_document.Goals as goal

pub returns : goal.returns
returns c =
    let b = c.args.bytes.now in
    let (t, h) = c.requires in
    let is = c.part.ensures.means t (subst (λ x. Doc x t) (sym c.new_unchecked.ensures) h) in
    iff_trans (c.is_written.ensures t is)
    (written_document b t
    (λ i. omega (arith, c.type_inv.bytes i)) h _ _ is
    (c.part.ensures.bytes ∙ c.new_unchecked.ensures))
