use Rattle.std.proofs.Common.{Option, option_map, List, ℕ, ◌≢◌, ◌↔◌, length, length-drop, sym}
use Rattle.std.proofs.Common.{ap, refl, rules, subst, ◌∙◌, arith}
use Rattle.std.specs.Str.{IsUtf8}
use Rattle.jsonb_codec.specs.Parts.{HasArray, HasChildren, HasPayload, IsAbove}
use Rattle.jsonb_codec.proofs.Scalars.{raised_within, tells_within, tells_everywhere}
use Rattle.jsonb_codec.proofs.Scalars.{tells_outside, on_err, empty_test, not_empty, both_true}
use Rattle.jsonb_codec.proofs.Scalars.{true_both, HasPayload-text}
use Rattle.jsonb_codec.proofs.Steps.{reading, length-Read, children_iff, children_end}
use Rattle.jsonb_codec.proofs.Steps.{children_none, no_words, array_room, array_iff}
use Rattle.jsonb_codec.proofs.Steps.{container_array, container_object, no_container}
use Rattle.jsonb_codec.proofs.Steps.{container_room, has_depth}
use Rattle.jsonb_codec.proofs.Steps.{payload_within, payload_flat}
use Rattle.jsonb_codec.proofs.KeySteps.{object_room, object_onward, object_iff, object_values}
use Rattle.jsonb_codec.proofs.KeySteps.{keys_iff, keys_none}
use Rattle.jsonb_codec.proofs.document.fault.+container.Goals as goal

pub check_array-returns-then-body-count : goal.check_array-returns-then-body-count
check_array-returns-then-body-count t c = λ d r h.
    omega (arith, array_room _ _ h.0 h.1.1, c.if-body-count.true)

pub check_array-returns : goal.check_array-returns
check_array-returns t c =
    let cut = c.split_at.ensures in
    let both : (d : ℕ) → HasChildren d _ _ ↔ HasArray d _ _ =
    λ d. array_iff cut.front cut.back cut.front_len d c.requires in
    tells_within _ _ _ _ c.check_children.ensures (both _).0 (λ d. (both d).1)

pub check_children-returns-in_err-payload : goal.check_children-returns-in_err-payload
check_children-returns-in_err-payload t c =
    let past = c.in_err-payload.ensures in
    raised_within _ _ _ _ c.from_residual.ensures.1
    (λ d r h. omega (
      arith,
      past.past,
      ((children_iff (reading c.in-Some.ensures) d _).1
          (c.loop-entry.invariant.onward d h)).0,
    ))

pub check_children-returns-in_err-check_payload : goal.check_children-returns-in_err-check_payload
check_children-returns-in_err-check_payload t c =
    let decided = c.in_err-check_payload.ensures in
    raised_within _ _ _ _ c.from_residual-in_err-check_payload.ensures.1
    (λ d r h. decided d r (rw c.in_ok-payload.ensures.payload
    ((children_iff (reading c.in-Some.ensures) d _).1
    (c.loop-entry.invariant.onward d h)).1.0))

pub check_children-loop-entry-smaller : goal.check_children-loop-entry-smaller
check_children-loop-entry-smaller t c = omega (arith, length-Read (reading c.in-Some.ensures))

pub check_children-loop-entry-preserved : goal.check_children-loop-entry-preserved
check_children-loop-entry-preserved t c =
    let l = c.loop-entry in let e = c.in-Some.entry in let split = c.in_ok-payload.ensures in
    let read = reading c.in-Some.ensures in
    let shorter = length-Read read in
    let later = ap length split.later ∙ length-drop e.number _ in
    record {
      onward = λ d h. rw split.later ((children_iff read d _).1 (l.invariant.onward d h)).1.1;
      back = λ h. l.invariant.back ((children_iff read _ _).0 (
        split.fits,
        (
          subst (HasPayload _ e.tag) split.payload c.in_ok-check_payload.ensures,
          subst (HasChildren _ e.rest.now) split.later h,
        ),
      ));
      words = omega (arith, shorter, l.invariant.words);
      entries_shorter = omega (arith, shorter, l.invariant.entries_shorter);
      payloads_shorter = omega (arith, later, l.invariant.payloads_shorter);
    }

pub check_children-returns-then-is_empty : goal.check_children-returns-then-is_empty
check_children-returns-then-is_empty t c =
    let l = c.loop-entry in
    l.invariant.back
    (children_none (no_words _ c.in_default.ensures.none l.invariant.words)
    ((empty_test _ _ c.is_empty.ensures).0 c.if-is_empty.true))

pub check_children-returns-else-is_empty : goal.check_children-returns-else-is_empty
check_children-returns-else-is_empty t c =
    let l = c.loop-entry in
    λ d r h. not_empty _ _ c.is_empty.ensures c.if-is_empty.false
    (ap length
    (let left = l.invariant.onward d h in
    (children_end left.0 _ _ c.in_default.ensures.none left.1.1).1.1))

pub check_container-returns-then-depth-eq0 : goal.check_container-returns-then-depth-eq0
check_container-returns-then-depth-eq0 t c = λ d r h.
    has_depth d _ h (let near = r refl in omega arith)

pub check_container-returns-in_default : goal.check_container-returns-in_default
check_container-returns-in_default t c = λ d r h.
    omega (arith, container_room h.0 _ h.1.1, c.in_default.ensures.none)

pub check_container-check_array-requires : goal.check_container-check_array-requires
check_container-check_array-requires t c =
    (omega (arith, length-Read (reading c.in-Some.ensures)), c.in-Some.ensures.number)

pub check_container-check_object-requires : goal.check_container-check_object-requires
check_container-check_object-requires t c =
    (omega (arith, length-Read (reading c.in-Some.ensures)), c.in-Some.ensures.number)

pub check_container-returns-in-2147483648 : goal.check_container-returns-in-2147483648
check_container-returns-in-2147483648 t c =
    let inside = λ (d : ℕ) (some : d ≢ 0).
    container_array (reading c.in-Some.ensures) d some c.in-2147483648.is in
    let some = c.if-depth-eq0.false in
    tells_outside _ _ _ _ some c.check_array.ensures (inside _ some).0
    (λ d h. let deep = has_depth d _ h in (deep, (inside d deep).1 h))

pub check_container-returns-in-1073741824 : goal.check_container-returns-in-1073741824
check_container-returns-in-1073741824 t c =
    let inside = λ (d : ℕ) (some : d ≢ 0).
    container_object (reading c.in-Some.ensures) d some c.in-1073741824.is in
    let some = c.if-depth-eq0.false in
    tells_outside _ _ _ _ some c.check_object.ensures (inside _ some).0
    (λ d h. let deep = has_depth d _ h in (deep, (inside d deep).1 h))

pub check_container-returns-in_default-tag : goal.check_container-returns-in_default-tag
check_container-returns-in_default-tag t c = λ d r.
    no_container (reading c.in-Some.ensures) (search rules) (search rules) d

pub check_keys-returns-in_err-key-clause-none : goal.check_keys-returns-in_err-key-clause-none
check_keys-returns-in_err-key-clause-none t c =
    let l = c.loop-entry in
    on_err c.from_residual.result (λ q h. omega (
      arith,
      ((keys_iff (reading c.in-Some.ensures) _ l.payloads_left.now q).1
          (l.invariant.onward q h).1).fits,
      c.in_err-key.ensures.past,
    ))

pub check_keys-returns-in_err-check_key-clause-none :
    goal.check_keys-returns-in_err-check_key-clause-none
check_keys-returns-in_err-check_key-clause-none t c =
    let l = c.loop-entry in
    on_err c.from_residual-in_err-check_key.result (λ q h.
    let first = (keys_iff (reading c.in-Some.ensures) _ l.payloads_left.now q).1
    (l.invariant.onward q h).1 in
    c.in_err-check_key.ensures _ (λ is. omega arith)
    ((HasPayload-text c.args.depth c.in-Some.entry.tag c.in_ok-key.key.now first.is_text).0
    (rw c.in_ok-key.ensures.payload first.utf8)))

pub check_keys-loop-entry-smaller : goal.check_keys-loop-entry-smaller
check_keys-loop-entry-smaller t c = omega (arith, length-Read (reading c.in-Some.ensures))

pub check_keys-loop-entry-preserved : goal.check_keys-loop-entry-preserved
check_keys-loop-entry-preserved t c =
    let l = c.loop-entry in let e = c.in-Some.entry in let split = c.in_ok-key.ensures in
    let read = reading c.in-Some.ensures in
    let p = l.payloads_left.now in
    let shorter = length-Read read in
    let later = ap length split.later ∙ length-drop e.number p in
    let before : Option (List ℕ) = option_map (λ b. b.now) l.before in
    let next = c.is_key_after-ascend.ensures in
    record {
      onward = λ q h.
          let left = l.invariant.onward q h in
          let first = (keys_iff read before p q).1 left.1 in (
            true_both l.ascend _ left.0 (next.1 (first.is_text, rw split.payload first.above)),
            rw (split.payload, split.later) first.others,
          );
      back = λ yes q h.
          let both = both_true l.ascend _ yes in
          let is_key = next.0 both.1 in
          let is_text =
          (HasPayload-text _ e.tag _ is_key.0).1
          c.in_ok-check_key.ensures in
          l.invariant.back both.0 q ((keys_iff read before p q).0 record {
            is_text = is_key.0;
            fits = split.fits;
            above = subst (IsAbove before) split.payload is_key.1;
            utf8 = subst IsUtf8 split.payload is_text;
            others = rw (← split.payload, ← split.later) h;
          });
      words = omega (arith, shorter, l.invariant.words);
      entries_shorter = omega (arith, shorter, l.invariant.entries_shorter);
      payloads_shorter = omega (arith, later, l.invariant.payloads_shorter);
    }

pub check_keys-returns-clause-keys : goal.check_keys-returns-clause-keys
check_keys-returns-clause-keys t c =
    let l = c.loop-entry in
    λ yes. l.invariant.back yes _
    (keys_none (no_words _ c.in_default.ensures.none l.invariant.words))

pub check_keys-returns-clause-ascend : goal.check_keys-returns-clause-ascend
check_keys-returns-clause-ascend t c =
    λ q h. (c.loop-entry.invariant.onward q h).0

pub check_object-returns-then-body-count : goal.check_object-returns-then-body-count
check_object-returns-then-body-count t c = λ d r h.
    omega (arith, object_room _ _ h.0 h.1.1, c.if-body-count.true)

pub check_object-returns-in_err-keys : goal.check_object-returns-in_err-keys
check_object-returns-in_err-keys t c =
    let one = c.split_at.ensures in let two = c.split_at-2.ensures in
    let found = c.in_err-keys.ensures in
    raised_within _ _ _ _ c.from_residual.ensures.1
    (λ d r object.
    let w = object_onward one.front one.back two.front two.back one.front_len two.front_len
    d object in
    found.none w.0 w.1.0)

pub check_object-returns-in_err-check_children : goal.check_object-returns-in_err-check_children
check_object-returns-in_err-check_children t c =
    let one = c.split_at.ensures in let two = c.split_at-2.ensures in
    let k = c.in_ok-keys in
    let decided = c.in_err-check_children.ensures in
    raised_within _ _ _ _ c.from_residual-in_err-check_children.ensures.1
    (λ d r object. decided d r
    (object_values one.front one.back two.front two.back one.front_len two.front_len d
    _ k.keys.ascend k.ensures.keys k.ensures.ascend object))

pub check_object-returns-then-keys : goal.check_object-returns-then-keys
check_object-returns-then-keys t c =
    let one = c.split_at.ensures in let two = c.split_at-2.ensures in
    let k = c.in_ok-keys in
    (object_iff one.front one.back two.front two.back one.front_len two.front_len _
    c.requires _ k.keys.ascend k.ensures.keys k.ensures.ascend c.in_ok-check_children.ensures).0
    c.if-keys.true

pub check_object-returns-else-keys : goal.check_object-returns-else-keys
check_object-returns-else-keys t c =
    let one = c.split_at.ensures in let two = c.split_at-2.ensures in
    let k = c.in_ok-keys in
    let onward =
    object_onward one.front one.back two.front two.back one.front_len two.front_len in
    λ d r object.
    let found = onward d object in
    let never = sym c.if-keys.false ∙ k.ensures.ascend found.0 found.1.0 in cc

pub check_key-returns-then-tag-eq-STRING_TAG : goal.check_key-returns-then-tag-eq-STRING_TAG
check_key-returns-then-tag-eq-STRING_TAG t c =
    let either = λ (d : ℕ). HasPayload-text d _ _ c.if-tag-eq-STRING_TAG.true in
    tells_everywhere _ _ _ _ c.check_text.ensures (either _).0 (λ d. (either d).1)

pub check_payload-returns-then-tag-eq-CONTAINER_TAG :
    goal.check_payload-returns-then-tag-eq-CONTAINER_TAG
check_payload-returns-then-tag-eq-CONTAINER_TAG t c =
    let is = c.if-tag-eq-CONTAINER_TAG.true in
    let p = c.args.payload.now in
    tells_within _ _ _ _ c.check_container.ensures
    (λ h. subst (λ (type : ℕ). HasPayload c.args.depth type p) (sym is) h)
    (λ d h. subst (λ (type : ℕ). HasPayload d type p) is h)

pub check_payload-returns-else-tag-eq-CONTAINER_TAG :
    goal.check_payload-returns-else-tag-eq-CONTAINER_TAG
check_payload-returns-else-tag-eq-CONTAINER_TAG t c =
    tells_everywhere _ _ _ _ c.check_scalar_payload.ensures (payload_within _ _ _)
    (λ d. payload_flat d _ _ c.if-tag-eq-CONTAINER_TAG.false)
