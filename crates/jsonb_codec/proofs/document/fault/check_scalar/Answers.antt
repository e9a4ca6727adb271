use Rattle.std.proofs.Common.{length, ap, subst, ◌∙◌, arith, length-drop}
use Rattle.jsonb_codec.specs.Parts.{HasPayload}
use Rattle.jsonb_codec.proofs.Scalars.{raised, empty_test, not_empty}
use Rattle.jsonb_codec.proofs.Steps.{reading, scalar_count, scalar_entry, scalar_iff}
use Rattle.jsonb_codec.proofs.document.fault.check_scalar.Goals as goal

pub returns-then-count-ne0 : goal.returns-then-count-ne0
returns-then-count-ne0 c = λ h. c.if-count-ne0.true (scalar_count _ _ c.requires h.0 h.1.1)

pub returns-in_default : goal.returns-in_default
returns-in_default c = λ h. omega (
  arith,
  scalar_entry _ _ c.requires h.0 h.1.1,
  c.in_default.ensures.none,
)

pub returns-then-entry-eq-CONTAINER_TAG : goal.returns-then-entry-eq-CONTAINER_TAG
returns-then-entry-eq-CONTAINER_TAG c =
    let scalar = scalar_iff _ _ c.requires (reading c.in-Some.ensures) in
    λ h. (scalar.1 h).1.0 c.if-entry-eq-CONTAINER_TAG.true

pub returns-in_err-payload : goal.returns-in_err-payload
returns-in_err-payload c =
    let scalar = scalar_iff _ _ c.requires (reading c.in-Some.ensures) in
    let past = c.in_err-payload.ensures in
    raised _ _ _ c.from_residual.ensures.1
    (λ h. omega (arith, past.past, (scalar.1 h).1.1.0))

pub returns-in_err-check_scalar_payload : goal.returns-in_err-check_scalar_payload
returns-in_err-check_scalar_payload c =
    let scalar = scalar_iff _ _ c.requires (reading c.in-Some.ensures) in
    let decided = c.in_err-check_scalar_payload.ensures in
    raised _ _ _ c.from_residual-in_err-check_scalar_payload.ensures.1
    (λ h. decided (rw c.in_ok-payload.ensures.payload (scalar.1 h).1.1.1))

pub returns-then-not-is_empty : goal.returns-then-not-is_empty
returns-then-not-is_empty c =
    let e = c.in-Some.entry in
    let scalar = scalar_iff _ _ c.requires (reading c.in-Some.ensures) in
    let later = ap length c.in_ok-payload.ensures.later ∙ length-drop e.number e.rest.now in
    λ h. not_empty _ _ c.is_empty.ensures c.if-not-is_empty.true
    (omega (arith, later, (scalar.1 h).1.1.0))

pub returns : goal.returns
returns c =
    let e = c.in-Some.entry in
    let split = c.in_ok-payload.ensures in
    let later = ap length split.later ∙ length-drop e.number e.rest.now in
    let none =
    (empty_test _ _ c.is_empty.ensures).0 c.if-not-is_empty.false in
    (scalar_iff _ _ c.requires (reading c.in-Some.ensures)).0 (
      c.if-count-ne0.false,
      (
        c.if-entry-eq-CONTAINER_TAG.false,
        (
          omega (arith, later, ap length none, split.fits),
          subst (HasPayload 0 e.tag) split.payload c.in_ok-check_scalar_payload.ensures,
        ),
      ),
    )
