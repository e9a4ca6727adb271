use Rattle.std.proofs.Common.{rules, refl, sym, ap, subst, ◌∙◌, ◌≡◌, ◌<◌, ◌+◌, ◌-◌, ◌++◌, ◌∷◌, []}
use Rattle.std.proofs.Common.{arith, drop, get_or, length, append-nil}
use Rattle.std.proofs.lemmas.List.{length-drop}
use Rattle.std.specs.Global.{Vec}
use Rattle.jsonb_codec.specs.Tape.{cut}
use Rattle.jsonb_codec.specs.declared.tape.Tape.{Tape}
use Rattle.jsonb_codec.specs.declared.tape.place.Place.{Place}
use Rattle.jsonb_codec.specs.declared.tape.place.Place.TheVariants as place
use Rattle.jsonb_codec.proofs.OnTape.Ordering.{IsInside, PutInOrder, at_drop, cut_more}
use Rattle.jsonb_codec.proofs.OnTape.Ordering.{part_inside, place_if, place_none, place_some}
use Rattle.jsonb_codec.proofs.OnTape.Ordering.{put_grows, put_joined, put_one_more, shifted}
use Rattle.jsonb_codec.proofs.tape.Tape.put_in_order.Goals.{then-part-gt0+in_ok-push, else-part-gt0}
use Rattle.jsonb_codec.proofs.tape.Tape.put_in_order.Goals.{After-index, After-len-moved}
use Rattle.jsonb_codec.proofs.tape.Tape.put_in_order.Goals as goal

-- where the member's part is
inside : (c : After-index) → IsInside (c.args.self.now.inner.place + 1)
    (length c.args.self.now.places.items) c.index.result.now.part
inside c =
    let (front, (fit, are)) = c.requires.members in
    let old = c.args.self.now in
    let ms = drop c.args.sorted old.members.items in
    let index = c.loop-index.index in
    let m = c.index.result.now in
    let at : m ≡ get_or ms (index - c.args.sorted) m =
    c.index.ensures ∙ ap (λ v. get_or v.items index m) c.loop-index.invariant.members
    ∙ at_drop old.members.items c.args.sorted index m c.loop-index.auto.index in
    part_inside old.storage (old.inner.place + 1) old.places.items ms front
    (index - c.args.sorted) m are fit
    (omega (
      arith,
      c.len-index-end.ensures,
      c.loop-index-test.true,
      c.loop-index.auto.index,
      length-drop c.args.sorted old.members.items,
    )) at

-- the places that are moved fit after those that were moved before
room : (c : After-len-moved) → c.len-moved.result + length c.args.self.now.places.items
    < 18446744073709551616
room c =
    let old = c.args.self.now in
    omega (
      arith,
      c.len-moved.ensures,
      old.storage.moved.ok,
      old.storage.moved.small,
      old.places.ok,
      old.places.small,
    )

pub overflow_sub-part : goal.overflow_sub-part
overflow_sub-part c = (inside (goal.at.overflow_sub-part c).After-index).from

pub overflow_add-moved : goal.overflow_add-moved
overflow_add-moved c =
    let at = goal.at.overflow_add-moved c in
    let part = inside at.After-index in
    omega (arith, part.low, part.high, room at.After-len-moved)

pub overflow_sub-part-then-part-gt0 : goal.overflow_sub-part-then-part-gt0
overflow_sub-part-then-part-gt0 c =
    let part = inside (goal.at.overflow_sub-part-then-part-gt0 c).After-index in
    omega (arith, part.from, part.low)

pub overflow_add-moved-then-part-gt0 : goal.overflow_add-moved-then-part-gt0
overflow_add-moved-then-part-gt0 c =
    let at = goal.at.overflow_add-moved-then-part-gt0 c in
    omega (arith, (inside at.After-index).high, room at.After-len-moved)

pub loop-index-preserved : goal.loop-index-preserved
loop-index-preserved c =
    let old = c.args.self.now in
    let new = c.loop-index.self in
    let index = c.loop-index.index in
    let m = c.index.result.now in
    let ms = cut c.args.sorted index old.members.items in
    let next = cut c.args.sorted (index + 1) old.members.items in
    let to = length old.storage.moved.items in
    let part = place.Part (shifted to (old.inner.place + 1) m.part) in
    let more = cut_more c.args.sorted index old.members.items m c.loop-index.auto.index
    (omega (arith, c.len-index-end.ensures, c.loop-index-test.true))
    (c.index.ensures ∙ ap (λ v. get_or v.items index m) c.loop-index.invariant.members) in
    let put : (later : Tape) (places : Vec Place) → later ≡ record new { places = places }
    → places.items ≡ new.places.items ++ place_if m.part.size part → PutInOrder old later next =
    λ later places is are. subst (λ t. PutInOrder old t next) (sym is)
    (put_one_more old new (record new { places = places }) ms next m c.loop-index.invariant more
    refl refl refl refl are) in
    elim c.if-part-gt0.branch [
      | then-part-gt0+in_ok-push w ↦
          let moved : c.len-moved.result ≡ to = search rules in
          let grown : w.push.new.self.items ≡ new.places.items
          ++ place.Part (shifted c.len-moved.result (old.inner.place + 1) m.part) ∷ [] =
          search rules in
          put _ w.push.new.self w.self-is
          (grown
          ∙ ap (λ k. new.places.items ++ place.Part (shifted k (old.inner.place + 1) m.part)
          ∷ []) moved
          ∙ ap (λ xs. new.places.items ++ xs)
          (sym (place_some m.part.size part w.if-part-gt0.true)))
      | else-part-gt0 w ↦
          put _ new.places w.self-is
          (sym (append-nil new.places.items)
          ∙ ap (λ xs. new.places.items ++ xs)
          (sym (place_none m.part.size part w.if-part-gt0.false)))
    ]

pub returns-clause-grows : goal.returns-clause-grows
returns-clause-grows c = put_grows c.args.self.now c.loop-index.self _ c.loop-index.invariant

pub returns-clause-joined : goal.returns-clause-joined
returns-clause-joined c = λ front b low fit are.
    let old = c.args.self.now in
    put_joined old c.loop-index.self c.args.sorted c.loop-index.index front b c.loop-index.invariant
    (omega (arith, c.len-index-end.ensures, c.loop-index-test.false)) c.requires.inside low fit are
