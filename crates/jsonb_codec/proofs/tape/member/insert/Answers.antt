use Rattle.std.proofs.Common.{refl, sym, ap, subst, ◌<◌, ◌≡◌, ℕ, List, arith, get_or, length}
use Rattle.std.proofs.Common.{slice_set}
use Rattle.std.specs.Cmp.Lexicographic.{slice_cmp}
use Rattle.std.specs.Ordering.{nat_cmp}
use Rattle.std.specs.declared.cmp.Ordering.{Ordering}
use Rattle.std.specs.declared.cmp.Ordering.TheVariants.{Less, Equal, Greater}
use Rattle.jsonb_value.specs.Json.Syntax.{Entries}
use Rattle.jsonb_value.specs.Tree.{Tree}
use Rattle.jsonb_codec.specs.Keys.{IsKey, IsPicked, Picks}
use Rattle.jsonb_codec.specs.Tape.{MembersAre}
use Rattle.jsonb_codec.specs.declared.tape.place.Place.{Place}
use Rattle.jsonb_codec.proofs.OnTape.Closing.{as_many, at_same, member_at, no_member}
use Rattle.jsonb_codec.proofs.OnTape.Inserting.{Passed, compared, goes_before, goes_last, goes_on}
use Rattle.jsonb_codec.proofs.OnTape.Inserting.{passed_none, takes_place}
use Rattle.jsonb_codec.proofs.OnTape.Ordering.{pick_at}
use Rattle.jsonb_codec.proofs.tape.member.insert.Goals.{After-compare_members, After-deref}
use Rattle.jsonb_codec.proofs.tape.member.insert.Goals.{After-index, At-loop-place}
use Rattle.jsonb_codec.proofs.tape.member.insert.Goals as goal

inside : (c : After-index) → c.loop-place.place < length c.loop-place.order.items
inside c = omega (
  arith,
  c.loop-place-test.true,
  c.len-place-end.ensures,
  ap length c.loop-place.invariant.0,
)

-- the number at the place is that of a member
below : (c : After-index) → c.index.result.now < length c.args.members.now
below c =
    let (base, (ps, (read, (es, (h, picks))))) = c.requires.members in
    let held = subst (λ xs. Picks read xs es) (sym c.loop-place.invariant.0) picks in
    let many = as_many c.args.storage.now base ps c.args.members.now read h in
    let pick = pick_at read c.loop-place.order.items es c.loop-place.place c.index.result.now held
    (inside c) c.index.ensures in
    omega (arith, pick.low, many)

key_at : (c : After-deref) (i : ℕ) → i < length c.args.members.now
    → IsKey c.deref.result.now (get_or c.args.members.now i no_member).key
key_at c i low =
    let (base, (ps, (read, (es, (h, picks))))) = c.requires.members in
    let members = c.args.members.now in
    let m = get_or members i no_member in
    let at = member_at c.args.storage.now base ps members read i m h low
    (at_same members i no_member low) in
    subst (λ xs. IsKey xs m.key) (sym c.deref.ensures.value) at.key.is_key

-- how the key compares with the one at the place
met : (c : After-compare_members) (o : Ordering) → c.compare_members.result ≡ o → (base : ℕ)
    (ps : List Place) (read : Entries) (key : List ℕ) (t : Tree)
    → MembersAre c.args.storage.now base ps c.args.members.now read
    → IsPicked read c.args.number (key, t) → (e : List ℕ × Tree)
    → IsPicked read c.index.result.now e → slice_cmp nat_cmp key e.0 ≡ o
met c o found base ps read key t h is e at = compared c.args.storage.now base ps
    c.args.members.now read c.args.number c.index.result.now (key, t) e c.deref.result.now
    c.compare_members.result o h is at c.deref.ensures.value c.compare_members.ensures found

-- the members before the place have lower keys
passed : (c : At-loop-place) (base : ℕ) (ps : List Place) (read es : Entries) (key : List ℕ)
    (t : Tree) → MembersAre c.args.storage.now base ps c.args.members.now read
    → Picks read c.args.order.now.items es → IsPicked read c.args.number (key, t)
    → Passed read c.loop-place.order.items es key c.loop-place.place
passed c base ps read es key t h picks is = c.loop-place.invariant.1 base ps read es key t h
    (subst (λ xs. Picks read xs es) (sym c.loop-place.invariant.0) picks) is

pub loop-place-init : goal.loop-place-init
loop-place-init c = (refl, λ base ps read es key t h picks is. passed_none read _ es key picks)

pub bounds-members-index : goal.bounds-members-index
bounds-members-index c = below (goal.at.bounds-members-index c).After-index

pub offset_bounds-members-index : goal.offset_bounds-members-index
offset_bounds-members-index c =
    omega (arith, below (goal.at.offset_bounds-members-index c).After-index)

pub compare_members-requires-clause-left : goal.compare_members-requires-clause-left
compare_members-requires-clause-left c =
    key_at (goal.at.compare_members-requires-clause-left c).After-deref c.args.number
    c.requires.number

pub compare_members-requires-clause-right : goal.compare_members-requires-clause-right
compare_members-requires-clause-right c =
    let at = goal.at.compare_members-requires-clause-right c in
    key_at at.After-deref c.index.result.now (below at.After-index)

pub loop-place-preserved : goal.loop-place-preserved
loop-place-preserved c =
    let at = goal.at.loop-place-preserved c in (
      c.loop-place.invariant.0,
      λ base ps read es key t h picks is. goes_on read c.loop-place.order.items es key
          c.loop-place.place c.index.result.now
          (c.loop-place.invariant.1 base ps read es key t h picks is) (inside at.After-index)
          c.index.ensures
          (met at.After-compare_members Greater c.in-Greater.is base ps read key t h is),
    )

pub returns-in-Less-clause-ok : goal.returns-in-Less-clause-ok
returns-in-Less-clause-ok c = λ base ps read es key t h picks is.
    let at = goal.at.returns-in-Less-clause-ok c in
    goes_before read c.loop-place.order.items c.insert.new.self.items es key c.loop-place.place
    c.index.result.now c.args.number t (passed at.At-loop-place base ps read es key t h picks is)
    (inside at.After-index) c.index.ensures
    (met at.After-compare_members Less c.in-Less.is base ps read key t h is)
    c.in_ok-insert-in-Less.ensures.items is

pub returns-in-Equal-clause-ok : goal.returns-in-Equal-clause-ok
returns-in-Equal-clause-ok c = λ base ps read es key t h picks is.
    let at = goal.at.returns-in-Equal-clause-ok c in
    let order = c.loop-place.order.items in
    takes_place read order (slice_set order c.loop-place.place c.args.number) es key
    c.loop-place.place c.index.result.now c.args.number t
    (passed at.At-loop-place base ps read es key t h picks is) (inside at.After-index)
    c.index.ensures (met at.After-compare_members Equal c.in-Equal.is base ps read key t h is)
    refl is

pub returns-clause-ok : goal.returns-clause-ok
returns-clause-ok c = λ base ps read es key t h picks is.
    goes_last read c.loop-place.order.items c.push.new.self.items es key c.loop-place.place
    c.args.number t
    (passed (goal.at.returns-clause-ok c).At-loop-place base ps read es key t h picks is)
    (omega (
      arith,
      c.loop-place-test.false,
      c.len-place-end.ensures,
      ap length c.loop-place.invariant.0,
    )) c.in_ok-push.ensures.items is
