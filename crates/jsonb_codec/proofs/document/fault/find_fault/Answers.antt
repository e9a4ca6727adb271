use Rattle.std.proofs.Common.{ℕ, ◌++◌, ◌+◌, inl, inr, sym, ap, subst, ◌∙◌, arith}
use Rattle.jsonb_codec.specs.WordBytes.{word}
use Rattle.jsonb_codec.specs.Parts.{HasScalar}
use Rattle.jsonb_codec.proofs.Scalars.{tells_within, tells_everywhere}
use Rattle.jsonb_codec.proofs.Steps.{reading, no_scalar, no_container, document_iff, document_room}
use Rattle.jsonb_codec.proofs.document.fault.find_fault.Goals as goal

pub returns-in_default : goal.returns-in_default
returns-in_default c = λ d r h.
    omega (arith, document_room h.0 _ h.1.1, c.in_default.ensures.none)

pub returns-then-header-eq-SCALAR_CONTAINER_TAG : goal.returns-then-header-eq-SCALAR_CONTAINER_TAG
returns-then-header-eq-SCALAR_CONTAINER_TAG c =
    let h = c.in-Some.header in let g = c.in-Some.ensures in
    let either = λ (d : ℕ). document_iff d c.args.bytes.now in
    let is = c.if-header-eq-SCALAR_CONTAINER_TAG.true in
    let whole = g.found ∙ ap (λ (k : ℕ). word (k + h.number) ++ h.rest.now) is in
    tells_everywhere _ _ _ _ c.check_scalar.ensures
    (λ scalar. (either _).0 (inl (subst HasScalar (sym whole) scalar)))
    (λ d document. elim ((either d).1 document) [
      | inl scalar ↦ subst HasScalar whole scalar
      | inr container ↦ absurd
          (no_container (reading g) (omega (arith, is)) (omega (arith, is)) d container)
    ])

pub returns-else-header-eq-SCALAR_CONTAINER_TAG : goal.returns-else-header-eq-SCALAR_CONTAINER_TAG
returns-else-header-eq-SCALAR_CONTAINER_TAG c =
    let either = λ (d : ℕ). document_iff d c.args.bytes.now in
    tells_within _ _ _ _ c.check_container.ensures (λ container. (either _).0 (inr container))
    (λ d document. elim ((either d).1 document) [
      | inl scalar ↦ absurd
          (no_scalar (reading c.in-Some.ensures) c.if-header-eq-SCALAR_CONTAINER_TAG.false
          scalar.0 scalar.1.1)
      | inr container ↦ container
    ])
