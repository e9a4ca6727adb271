use Rattle.jsonb_codec.proofs.CanonicalSteps.{refused, canonical_document}
use Rattle.jsonb_codec.proofs.canonical.is_canonical.Goals as goal

pub returns-in-None : goal.returns-in-None
returns-in-None c = refused
    (λ canonical. let never = c.in-None.ensures.exact.1 (canonical_document _ canonical) in cc)

pub returns-in-Some : goal.returns-in-Some
returns-in-Some c = rw c.in-Some.ensures.bytes at c.is_canonical_document.ensures
