use Rattle.std.proofs.Common.{rules, refl, sym, ap, subst, ◌∙◌, ◌≡◌, ◌++◌, ◌∷◌, [], reverse, arith}
use Rattle.std.proofs.lemmas.List.{append_assoc, append-nil}
use Rattle.std.specs.Prelude.{option_to_list}
use Rattle.jsonb_codec.specs.Tape.{cut}
use Rattle.jsonb_codec.specs.declared.tape.place.Place.TheVariants.{Head}
use Rattle.jsonb_codec.specs.declared.tape.write.Left.{Left}
use Rattle.jsonb_codec.proofs.OnTape.Writing.{LeftAre, head_next, left_weight, part_next, plain_next}
use Rattle.jsonb_codec.proofs.OnTape.Writing.{none_left, popped_all, popped_next, pushed}
use Rattle.jsonb_codec.proofs.OnTape.Writing.{scalar_next}
use Rattle.jsonb_codec.proofs.tape.write.append_payloads.Goals as goal

pub parts-init : goal.parts-init
parts-init c = (
  tt,
  λ p h. (
    p,
    (
      (
        p,
        (
          [],
          (
            h,
            (
              sym (append-nil p),
              subst (λ xs. LeftAre c.args.storage.now (reverse xs) [])
                  (sym c.new-left.ensures.items)
                  refl,
            ),
          ),
        ),
      ),
      refl,
    ),
  ),
)

pub parts-preserved-in_default-split_first : goal.parts-preserved-in_default-split_first
parts-preserved-in_default-split_first c = (
  popped_next c.parts.left.items c.pop-next.new.self.items
      c.pop-next.result c.pop-next.ensures.items (λ some. c.pop-next.ensures.variant.1 (omega
      (arith, some, c.parts.left.ok))),
  λ p h.
      let s = c.args.storage.now in
      let xs = reverse c.parts.left.items in
      let now = c.in-Some.now in
      let (r, (left, same)) = c.parts.invariant.1 p h in
      let lists = subst (λ o. LeftAre s (option_to_list o ++ xs) r) c.in-Some.is left in
      let (low, (high, (q, (is, others)))) = plain_next s now xs r lists (search rules) in
      let copied : c.extend_from_slice.new.self.items
      ≡ c.parts.out.items ++ cut now.start now.end s.payload.items = search rules in (
        q,
        (
          subst (λ ys. LeftAre s ys q)
              (popped_all c.parts.left.items c.pop-next.new.self.items c.pop-next.result
              c.pop-next.ensures.items) others,
          same ∙ ap (λ x. c.parts.out.items ++ x) is
              ∙ sym (append_assoc c.parts.out.items (cut now.start now.end s.payload.items) q)
              ∙ ap (λ x. x ++ q) (sym copied),
        ),
      ),
)

pub parts-preserved-in-Head : goal.parts-preserved-in-Head
parts-preserved-in-Head c = (
  tt,
  λ p h.
      let s = c.args.storage.now in
      let xs = reverse c.parts.left.items in
      let now = c.in-Some.now in
      let head = c.in-Head.head in
      let (r, (left, same)) = c.parts.invariant.1 p h in
      let lists = subst (λ o. LeftAre s (option_to_list o ++ xs) r) c.in-Some.is left in
      let (start, (end, places)) = c.in_ok-append_head-in-Head.ensures.left in
      let next : Left = record {
        start = _;
        end = _;
        places = record c.in-Some-split_first.places { now = _ };
      } in
      let after = head_next s now next xs r head lists
      (search rules ∙ ap (λ ps. Head head ∷ ps) (sym places)) start end in
      let before = cut now.start head.at s.payload.items in
      let bytes = before ++ cut head.start head.end s.heads.items in
      let copied : c.append_head.new.out.items ≡ c.parts.out.items ++ bytes =
      c.in_ok-append_head-in-Head.ensures.ok
      ∙ append_assoc c.parts.out.items before (cut head.start head.end s.heads.items) in (
        after.rest,
        (
          after.left,
          same ∙ ap (λ x. c.parts.out.items ++ x) after.same
              ∙ sym (append_assoc c.parts.out.items bytes after.rest)
              ∙ ap (λ x. x ++ after.rest) (sym copied),
        ),
      ),
)

pub append_head-requires-clause-payload : goal.append_head-requires-clause-payload
append_head-requires-clause-payload c =
    let s = c.args.storage.now in
    let xs = reverse c.parts.left.items in
    let now = c.in-Some.now in
    let (r, (left, same)) = c.parts.invariant.1 c.requires.0 c.requires.1 in
    let lists = subst (λ o. LeftAre s (option_to_list o ++ xs) r) c.in-Some.is left in
    let y : Left = record {
      start = c.in-Head.head.until;
      end = now.end;
      places = c.in-Some-split_first.places;
    } in
    let after = head_next s now y xs r c.in-Head.head lists (search rules) refl refl in
    (after.from, after.at)

pub append_head-requires-clause-head : goal.append_head-requires-clause-head
append_head-requires-clause-head c =
    let s = c.args.storage.now in
    let xs = reverse c.parts.left.items in
    let now = c.in-Some.now in
    let (r, (left, same)) = c.parts.invariant.1 c.requires.0 c.requires.1 in
    let lists = subst (λ o. LeftAre s (option_to_list o ++ xs) r) c.in-Some.is left in
    let y : Left = record {
      start = c.in-Head.head.until;
      end = now.end;
      places = c.in-Some-split_first.places;
    } in
    let after = head_next s now y xs r c.in-Head.head lists (search rules) refl refl in
    (after.low, after.heads)

pub parts-preserved : goal.parts-preserved
parts-preserved c = (
  tt,
  λ p h.
      let s = c.args.storage.now in
      let xs = reverse c.parts.left.items in
      let now = c.in-Some.now in
      let part = c.in-Part-2.part in
      let (r, (left, same)) = c.parts.invariant.1 p h in
      let lists = subst (λ o. LeftAre s (option_to_list o ++ xs) r) c.in-Some.is left in
      let y : Left = record now { places = c.in-Some-split_first.places } in
      let inner = record c.in-Some-split_first.places {
        now = cut part.first part.last c.deref-in-Part-2.result.now;
      } in
      let z : Left = record { start = part.start; end = part.end; places = inner } in
      let after = part_next s now y z xs r part lists (search rules) refl refl refl refl in
      let are = ap (λ ys. cut part.first part.last ys) c.deref-in-Part-2.ensures.value in (
        r,
        (
          subst (λ ys. LeftAre s (z ∷ ys) r)
              (sym (pushed c.parts.left.items c.push.new.self.items y (search rules)))
              (after.left are),
          same,
        ),
      ),
)

pub parts-smaller : goal.parts-smaller
parts-smaller c =
    let s = c.args.storage.now in
    let xs = reverse c.parts.left.items in
    let now = c.in-Some.now in
    let part = c.in-Part-2.part in
    let (r, (left, same)) = c.parts.invariant.1 c.requires.0 c.requires.1 in
    let lists = subst (λ o. LeftAre s (option_to_list o ++ xs) r) c.in-Some.is left in
    let y : Left = record now { places = c.in-Some-split_first.places } in
    let inner = record c.in-Some-split_first.places {
      now = cut part.first part.last c.deref-in-Part-2.result.now;
    } in
    let z : Left = record { start = part.start; end = part.end; places = inner } in
    let after = part_next s now y z xs r part lists (search rules) refl refl refl refl in
    let are = ap (λ ys. cut part.first part.last ys) c.deref-in-Part-2.ensures.value in
    omega (
      arith,
      after.less are,
      ap left_weight (pushed c.parts.left.items c.push.new.self.items y (search rules)),
      ap (λ o. left_weight (option_to_list o ++ xs)) c.in-Some.is,
    )

pub returns-clause-ok : goal.returns-clause-ok
returns-clause-ok c = λ p h.
    let (r, (left, same)) = c.parts.invariant.1 p h in
    let none = none_left c.args.storage.now c.parts.next c.parts.left.items r c.in_default.is
    c.parts.invariant.0 left in
    sym (same ∙ ap (λ x. c.parts.out.items ++ x) none ∙ append-nil c.parts.out.items)

pub parts-preserved-then-part : goal.parts-preserved-then-part
parts-preserved-then-part c = (
  tt,
  λ p h.
      let s = c.args.storage.now in
      let xs = reverse c.parts.left.items in
      let now = c.in-Some.now in
      let part = c.in-Part.part in
      let (r, (left, same)) = c.parts.invariant.1 p h in
      let lists = subst (λ o. LeftAre s (option_to_list o ++ xs) r) c.in-Some.is left in
      let y : Left = record now { places = c.in-Some-split_first.places } in
      let after = scalar_next s now y xs r part lists (search rules) refl refl (search rules) in
      let bytes = cut part.start part.end s.payload.items in
      let copied : c.extend_from_slice-in-Part.new.self.items ≡ c.parts.out.items ++ bytes =
      search rules in (
        after.rest,
        (
          after.left,
          same ∙ ap (λ x. c.parts.out.items ++ x) after.same
              ∙ sym (append_assoc c.parts.out.items bytes after.rest)
              ∙ ap (λ x. x ++ after.rest) (sym copied),
        ),
      ),
)

pub slice_bounds-extend_from_slice-count-in-Part :
    goal.slice_bounds-extend_from_slice-count-in-Part
slice_bounds-extend_from_slice-count-in-Part c =
    let s = c.args.storage.now in
    let xs = reverse c.parts.left.items in
    let now = c.in-Some.now in
    let part = c.in-Part.part in
    let (r, (left, same)) = c.parts.invariant.1 c.requires.0 c.requires.1 in
    let lists = subst (λ o. LeftAre s (option_to_list o ++ xs) r) c.in-Some.is left in
    let y : Left = record now { places = c.in-Some-split_first.places } in
    let after = scalar_next s now y xs r part lists (search rules) refl refl (search rules) in
    after.low

pub slice_bounds-extend_from_slice-start-in-Part :
    goal.slice_bounds-extend_from_slice-start-in-Part
slice_bounds-extend_from_slice-start-in-Part c =
    let s = c.args.storage.now in
    let xs = reverse c.parts.left.items in
    let now = c.in-Some.now in
    let part = c.in-Part.part in
    let (r, (left, same)) = c.parts.invariant.1 c.requires.0 c.requires.1 in
    let lists = subst (λ o. LeftAre s (option_to_list o ++ xs) r) c.in-Some.is left in
    let y : Left = record now { places = c.in-Some-split_first.places } in
    let after = scalar_next s now y xs r part lists (search rules) refl refl (search rules) in
    let low = after.low in
    search (rules, low)

pub slice_bounds-extend_from_slice-end-in-Part :
    goal.slice_bounds-extend_from_slice-end-in-Part
slice_bounds-extend_from_slice-end-in-Part c =
    let s = c.args.storage.now in
    let xs = reverse c.parts.left.items in
    let now = c.in-Some.now in
    let part = c.in-Part.part in
    let (r, (left, same)) = c.parts.invariant.1 c.requires.0 c.requires.1 in
    let lists = subst (λ o. LeftAre s (option_to_list o ++ xs) r) c.in-Some.is left in
    let y : Left = record now { places = c.in-Some-split_first.places } in
    let after = scalar_next s now y xs r part lists (search rules) refl refl (search rules) in
    let high = after.high in
    search (rules, high)
