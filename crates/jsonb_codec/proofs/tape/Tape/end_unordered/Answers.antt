use Rattle.std.proofs.Common.{rules, refl, sym, subst, ◌≡◌, ◌∙◌, ◌∷◌, ◌+◌, ℕ, List, [], ap, arith}
use Rattle.std.proofs.Common.{Some, drop, length, take}
use Rattle.std.proofs.lemmas.List.{take-append-drop}
use Rattle.std.proofs.lemmas.Result.{on_ok_weaker}
use Rattle.jsonb_value.specs.Json.Syntax.{Entries, insert_all, pairs}
use Rattle.jsonb_value.specs.Reader.Resume.{Content, going, members}
use Rattle.jsonb_value.specs.Tree.{object}
use Rattle.jsonb_codec.specs.Keys.{Picks}
use Rattle.jsonb_codec.specs.Shape.{AllFit, payloads}
use Rattle.jsonb_codec.specs.Tape.{IsAround, IsEndedIfFit, IsHead, IsHeadIfFit, MembersAre, cut}
use Rattle.jsonb_codec.specs.Tape.{shapes_of, tape_is, values_of}
use Rattle.jsonb_codec.specs.declared.tape.member.Member.{Member}
use Rattle.jsonb_codec.specs.declared.tape.place.Frame.{Frame}
use Rattle.jsonb_codec.specs.declared.tape.Tape.{Tape}
use Rattle.jsonb_codec.proofs.OnTape.Closing.{has_no_word, has_word, values_fit}
use Rattle.jsonb_codec.proofs.OnTape.Joined.{cut_rest}
use Rattle.jsonb_codec.proofs.OnTape.Open.{grows_further, members_stay}
use Rattle.jsonb_codec.proofs.OnTape.Ordering.{Sorted, members_count, sorted_after}
use Rattle.jsonb_codec.proofs.OnTape.Steps.{around_ordered, unordered_ended}
use Rattle.jsonb_codec.proofs.tape.Tape.end_unordered.Goals.{After-deref-2, After-deref-3}
use Rattle.jsonb_codec.proofs.tape.Tape.end_unordered.Goals.{In_ok-append_in_order, In_ok-size}
use Rattle.jsonb_codec.proofs.tape.Tape.end_unordered.Goals.{In_ok-put_in_order}
use Rattle.jsonb_codec.proofs.tape.Tape.end_unordered.Goals as goal

-- the innermost container is an object with these members
abbrev IsObject : Tape → Entries → List Content → Type 0
IsObject old front cs = tape_is old (going (members front ∷ cs))

-- members of the innermost container
abbrev AreInside : Tape → List Member → Entries → Type 0
AreInside old ms front = MembersAre old.storage (old.inner.place + 1) old.places.items ms front

picks : (c : After-deref-2) (read : Entries) → AreInside c.args.self.now
    (drop c.args.self.now.inner.members c.args.self.now.members.items) read
    → Picks read c.deref-2.result.now (insert_all [] read)
picks c read are =
    let old = c.args.self.now in
    let f = old.inner in
    let d = c.deref.result.now in
    let slice : cut f.members (length d) d ≡ drop f.members old.members.items =
    cut_rest f.members d ∙ ap (drop f.members) c.deref.ensures.value in
    subst (λ xs. Picks read xs (insert_all [] read)) (sym c.deref-2.ensures.value)
    (c.in_ok-order_of.ensures.ok (f.place + 1) old.places.items read
    (subst (λ ms. AreInside old ms read) (sym slice) are))

sorted : (c : In_ok-append_in_order) (front : Entries) (cs : List Content)
    → IsObject c.args.self.now front cs
    → Sorted c.args.self.now c.append_in_order.new.members.items front
sorted c front cs h = sorted_after c.args.self.now c.append_in_order.new.members.items
    c.deref-2.result.now front cs h (picks (goal.at.In_ok-append_in_order c).After-deref-2)
    c.in_ok-append_in_order.ensures.ok

-- the sorted members, as they are passed on
passed : (c : In_ok-append_in_order) (front : Entries) (cs : List Content)
    → IsObject c.args.self.now front cs
    → AreInside c.args.self.now (drop c.len-sorted.result c.append_in_order.new.members.items) front
passed c front cs h =
    let old = c.args.self.now in
    let count : c.len-sorted.result ≡ length old.members.items = search rules in
    subst (λ k. AreInside old (drop k c.append_in_order.new.members.items) front) (sym count)
    (sorted c front cs h).members

listed : (c : After-deref-3) (front : Entries) (cs : List Content)
    → IsObject c.args.self.now front cs → AreInside c.args.self.now
    (cut c.len-sorted.result (length c.deref-3.result.now) c.deref-3.result.now) front
listed c front cs h =
    subst (λ ms. AreInside c.args.self.now ms front)
    (sym (cut_rest c.len-sorted.result c.deref-3.result.now
    ∙ ap (drop c.len-sorted.result) c.deref-3.ensures.value))
    (passed (goal.at.After-deref-3 c).In_ok-append_in_order front cs h)

made : (c : In_ok-size) (front : Entries) (cs : List Content) → IsObject c.args.self.now front cs
    → IsHeadIfFit c.args.self.now.storage c.push_object_head.new.self c.in_ok-size.size
    (payloads (shapes_of (values_of front))) (object (pairs front))
made c front cs h =
    let old = c.args.self.now in
    let at = goal.at.In_ok-size c in
    c.in_ok-size.ensures.ok (old.inner.place + 1) old.places.items front
    (listed at.After-deref-3 front cs h) (sorted at.In_ok-append_in_order front cs h).ascend

head_of : (c : In_ok-size) (n : ℕ) → c.in_ok-size.size ≡ Some n → (front : Entries)
    (cs : List Content) → IsObject c.args.self.now front cs
    → IsHead c.args.self.now.storage c.push_object_head.new.self n
    (payloads (shapes_of (values_of front))) (object (pairs front))
head_of c n is front cs h =
    subst (λ o. IsHeadIfFit c.args.self.now.storage c.push_object_head.new.self o
    (payloads (shapes_of (values_of front))) (object (pairs front))) is (made c front cs h)

-- what put_in_order requires of the members
fitting : (c : In_ok-size) (n : ℕ) → c.in_ok-size.size ≡ Some n → (front : Entries)
    (cs : List Content) → IsObject c.args.self.now front cs → AllFit (shapes_of (values_of front))
    × MembersAre c.push_object_head.new.self (c.args.self.now.inner.place + 1)
    c.args.self.now.places.items (drop c.len-sorted.result c.append_in_order.new.members.items)
    front
fitting c n is front cs h =
    let old = c.args.self.now in (
      values_fit front (head_of c n is front cs h).fits.1,
      members_stay old.storage c.push_object_head.new.self (old.inner.place + 1) old.places.items
          (drop c.len-sorted.result c.append_in_order.new.members.items) front
          c.in_ok-size.ensures.grows
          (passed (goal.at.In_ok-size c).In_ok-append_in_order front cs h),
    )

-- after the head, where it has no size
abbrev headed : In_ok-size → Tape
headed c = record c.args.self.now {
  storage = c.push_object_head.new.self;
  members = c.append_in_order.new.members;
  order = c.order_of.new.order;
}

around_headed : (c : In_ok-size) (front : Entries) (cs : List Content)
    → IsObject c.args.self.now front cs → (g : Frame) × IsAround (headed c) g cs
around_headed c front cs h =
    let old = c.args.self.now in
    let f = old.inner in
    around_ordered old (headed c) (members front) cs (drop (f.place + 1) old.places.items) h
    c.in_ok-size.ensures.grows refl (sym (take-append-drop (f.place + 1) old.places.items)) refl
    (sorted (goal.at.In_ok-size c).In_ok-append_in_order front cs h).kept

around_put : (c : In_ok-put_in_order) (front : Entries) (cs : List Content)
    → IsObject c.args.self.now front cs → (g : Frame) × IsAround c.put_in_order.new.self g cs
around_put c front cs h =
    let old = c.args.self.now in
    let put = c.in_ok-put_in_order.ensures in
    around_ordered old c.put_in_order.new.self (members front) cs put.before.0 h
    (grows_further old.storage c.push_object_head.new.self c.put_in_order.new.self.storage
    c.in_ok-size.ensures.grows put.grows) put.inner put.before.1
    (ap (λ v. take old.inner.words v.items) put.words)
    (ap (λ v. take old.inner.members v.items) put.others
    ∙ (sorted (goal.at.In_ok-put_in_order c).In_ok-append_in_order front cs h).kept)

pub append_in_order-requires : goal.append_in_order-requires
append_in_order-requires c =
    let (front, (cs, h)) = c.requires in
    let old = c.args.self.now in
    let ordered = picks (goal.at.append_in_order-requires c).After-deref-2 h.0.read h.0.members in
    (h.0.read, (insert_all [] h.0.read, (ordered, members_count old front cs h)))

pub push_object_head-requires : goal.push_object_head-requires
push_object_head-requires c =
    let (front, (cs, h)) = c.requires in
    let old = c.args.self.now in
    let are = listed (goal.at.push_object_head-requires c).After-deref-3 front cs h in
    (old.inner.place + 1, (old.places.items, (front, are)))

pub close-requires : goal.close-requires
close-requires c =
    let (front, (cs, h)) = c.requires in
    let (g, around) = around_headed (goal.at.close-requires c).In_ok-size front cs h in
    (g, (cs, around))

pub returns-then-is_none-clause-ok : goal.returns-then-is_none-clause-ok
returns-then-is_none-clause-ok c = on_ok_weaker c.close.result (λ ok front cs h.
    let at = (goal.at.returns-then-is_none-clause-ok c).In_ok-size in
    let old = c.args.self.now in
    let size = c.in_ok-size.size in
    let none = has_no_word size c.is_none.result c.is_none.ensures c.if-is_none.true in
    let t = object (pairs front) in
    let (g, around) = around_headed at front cs h in
    ok g cs t around
    (subst (λ o. IsEndedIfFit c.push_object_head.new.self c.len-start.result 0
    (drop (old.inner.place + 1) old.places.items) o t) (sym none)
    (subst (λ o. IsHeadIfFit old.storage c.push_object_head.new.self o
    (payloads (shapes_of (values_of front))) t) none (made at front cs h)))) c.close.ensures.ok

pub put_in_order-requires-clause-members : goal.put_in_order-requires-clause-members
put_in_order-requires-clause-members c =
    let (front, (cs, h)) = c.requires in
    let some = has_word c.in_ok-size.size c.is_none.result c.is_none.ensures c.if-is_none.false in
    let at = (goal.at.put_in_order-requires-clause-members c).In_ok-size in
    (front, fitting at some.0 some.1 front cs h)

pub close-requires-2 : goal.close-requires-2
close-requires-2 c =
    let (front, (cs, h)) = c.requires in
    let (g, around) = around_put (goal.at.close-requires-2 c).In_ok-put_in_order front cs h in
    (g, (cs, around))

pub returns-clause-ok : goal.returns-clause-ok
returns-clause-ok c = on_ok_weaker c.close-2.result (λ ok front cs h.
    let at = goal.at.returns-clause-ok c in
    let old = c.args.self.now in
    let after = c.put_in_order.new.self in
    let put = c.in_ok-put_in_order.ensures in
    let size = c.in_ok-size.size in
    let some = has_word size c.is_none.result c.is_none.ensures c.if-is_none.false in
    let begins : c.len-start.result ≡ length old.storage.heads.items = search rules in
    let end : c.len-until.result ≡ length after.storage.payload.items = search rules in
    let t = object (pairs front) in
    let (fit, held) = fitting at.In_ok-size some.0 some.1 front cs h in
    let joined = put.joined front c.len-until.result
    (omega (arith, end, ap (λ v. length v.items) put.payload)) fit held in
    let ended = unordered_ended old.storage c.push_object_head.new.self after.storage some.0
    c.len-start.result c.len-until.result (drop (old.inner.place + 1) after.places.items) front
    (head_of at.In_ok-size some.0 some.1 front cs h) begins put.heads end joined in
    let (g, around) = around_put at.In_ok-put_in_order front cs h in
    ok g cs t around
    (subst (λ x. IsEndedIfFit after.storage c.len-start.result c.len-until.result
    (drop (x.place + 1) after.places.items) size t) (sym put.inner)
    (subst (λ o. IsEndedIfFit after.storage c.len-start.result c.len-until.result
    (drop (old.inner.place + 1) after.places.items) o t) (sym some.1) ended))) c.close-2.ensures.ok
