use Rattle.std.proofs.Common.{List, ℕ, subst, ◌∙◌}
use Rattle.jsonb_codec.specs.Doc.{Doc}
use Rattle.uses.proofs.canonical.canonical_bytes.Goals as goal

pub returns : goal.returns
returns c =
    let (t, (doc, (fits, is))) = c.in_ok-to_canonical.ensures.value in
    (t, (subst (λ (b : List ℕ). Doc b t) c.new.ensures doc, c.to_vec.ensures ∙ is))
