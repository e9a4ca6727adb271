-- The members of an object in the order of their keys.
use Rattle.std.proofs.Common.{◌≡◌, ℕ, zero, suc, ◌+◌, ◌-◌, ◌<◌, ◌≤◌, refl, sym, ap, subst, ◌∙◌, List}
use Rattle.std.proofs.Common.{[], ◌∷◌, ◌++◌, length, arith, length-append, take, drop, get_or, map}
use Rattle.std.proofs.Common.{Option, Some, None}
use Rattle.std.proofs.lemmas.List.{append_assoc, append-nil, drop_at, drop-drop, length-drop}
use Rattle.std.proofs.lemmas.List.{take-append-le}
use Rattle.std.proofs.lemmas.List.{length-take-le, take_all, take_more}
use Rattle.std.proofs.lemmas.Map.Lookups.{exact_bytes}
use Rattle.std.specs.BTreeMap.{insert_entry}
use Rattle.std.specs.Cmp.Lexicographic.{slice_cmp}
use Rattle.std.specs.Ordering.{nat_cmp, match_ordering}
use Rattle.std.specs.declared.cmp.Ordering.{Ordering}
use Rattle.std.specs.declared.cmp.Ordering.TheVariants.{Less, Equal, Greater}
use Rattle.jsonb_value.specs.Tree.{Ascend, Tree}
use Rattle.jsonb_value.specs.Json.Syntax.{Entries, insert_all, pairs}
use Rattle.jsonb_value.specs.Reader.Resume.{Content, going}
use Rattle.jsonb_value.specs.Reader.Resume as content
use Rattle.jsonb_codec.specs.Shape.{AllFit, payloads}
use Rattle.jsonb_codec.specs.Canon.{payload_of}
use Rattle.std.specs.Global.{Vec}
use Rattle.jsonb_codec.specs.Keys.{AreNumbered, Picks}
use Rattle.jsonb_codec.specs.Tape.{cut, IsHeadFirst, Joined, no_place, part_place, PartIs, KeyIs}
use Rattle.jsonb_codec.specs.Tape.{ArePicked, IsPartIfFit, MembersAre, values_of, shapes_of, Grows}
use Rattle.jsonb_codec.specs.Tape.{tape_is}
use Rattle.jsonb_codec.proofs.OnTape.Closing.{as_many}
use Rattle.jsonb_codec.specs.declared.tape.Tape.{Tape}
use Rattle.jsonb_codec.specs.declared.tape.member.Member.{Member}
use Rattle.jsonb_codec.specs.declared.tape.place.Part.{Part}
use Rattle.jsonb_codec.specs.declared.tape.place.Place.{Place}
use Rattle.jsonb_codec.specs.declared.tape.place.Place.TheVariants as place
use Rattle.jsonb_codec.specs.declared.tape.storage.Storage.{Storage}
use Rattle.jsonb_codec.proofs.OnTape.Joined.{cut_none, joined_grows}
use Rattle.jsonb_codec.proofs.OnTape.KeyOrder.{all_ascend, inserts_last}

-- ---- the members with some numbers

-- the member with a number, and its entry
pub record PickAt (read es : Entries) (i j : ℕ) : Type 0 where
  pub e : List ℕ × Tree
  pub next : take (j + 1) es ≡ take j es ++ e ∷ []
  pub low : i < length read
  pub same : get_or read i e ≡ e

pub pick_at : (read : Entries) (is : List ℕ) (es : Entries) (j i : ℕ) → Picks read is es
    → j < length is → i ≡ get_or is j i → PickAt read es i j
pick_at read [] es j i h low is = absurd (omega (arith, low))
pick_at read (k ∷ ks) [] j i h low is = absurd h
pick_at read (k ∷ ks) (e ∷ es) zero i h low is = record {
  e = e;
  next = refl;
  low = omega (arith, h.0.0, is);
  same = ap (λ n. get_or read n e) is ∙ h.0.1;
}
pick_at read (k ∷ ks) (e ∷ es) (suc j) i h low is =
    let rest = pick_at read ks es j i h.1 (omega (arith, low)) is in
    let same : suc j + 1 ≡ suc (j + 1) = omega arith in
    record {
      e = rest.e;
      next = ap (λ n. take n (e ∷ es)) same ∙ ap (λ xs. e ∷ xs) rest.next;
      low = rest.low;
      same = rest.same;
    }

pub member_read : (s : Storage) (base : ℕ) (ps : List Place) (ms : List Member) (read : Entries)
    (i : ℕ) (m : Member) (e : List ℕ × Tree) → MembersAre s base ps ms read → i < length read
    → m ≡ get_or ms i m → get_or read i e ≡ e
    → KeyIs s m.key m.prefix e.0 × IsPartIfFit s base ps m.part m.word e.1
member_read s base ps ms [] i m e h low is same = absurd (omega (arith, low))
member_read s base ps [] (f ∷ read) i m e h low is same = absurd h
member_read s base ps (n ∷ ms) (f ∷ read) zero m e h low is same =
    subst (λ x. KeyIs s m.key m.prefix x.0 × IsPartIfFit s base ps m.part m.word x.1) same
    (subst (λ x. KeyIs s x.key x.prefix f.0 × IsPartIfFit s base ps x.part x.word f.1) (sym is) h.0)
member_read s base ps (n ∷ ms) (f ∷ read) (suc i) m e h low is same =
    member_read s base ps ms read i m e h.1 (omega (arith, low)) is same

pub picked_snoc : (ms : List Member) (first : ℕ) (is : List ℕ) (picked : List Member) (i : ℕ)
    (m : Member) → ArePicked ms first is picked → m ≡ get_or ms (first + i) m
    → ArePicked ms first (is ++ i ∷ []) (picked ++ m ∷ [])
picked_snoc ms first [] [] i m h is = (is, tt)
picked_snoc ms first (k ∷ ks) (n ∷ picked) i m h is =
    (h.0, picked_snoc ms first ks picked i m h.1 is)
picked_snoc ms first [] (n ∷ picked) i m h is = absurd h
picked_snoc ms first (k ∷ ks) [] i m h is = absurd h

pub at_drop : {A : Type 0} (xs : List A) (n i : ℕ) (d : A) → n ≤ i
    → get_or xs i d ≡ get_or (drop n xs) (i - n) d
at_drop xs zero i d low = ap (λ k. get_or xs k d) (omega arith)
at_drop [] (suc n) i d low = refl
at_drop (x ∷ xs) (suc n) zero d low = absurd (omega (arith, low))
at_drop (x ∷ xs) (suc n) (suc i) d low =
    at_drop xs n i d (omega (arith, low)) ∙ ap (λ k. get_or (drop n xs) k d) (omega arith)

pub at_front : {A : Type 0} (xs ys : List A) (i : ℕ) (d : A) → i < length xs
    → get_or (xs ++ ys) i d ≡ get_or xs i d
at_front [] ys i d low = absurd (omega (arith, low))
at_front (x ∷ xs) ys zero d low = refl
at_front (x ∷ xs) ys (suc i) d low = at_front xs ys i d (omega (arith, low))

pub picked_members : (s : Storage) (base : ℕ) (ps : List Place) (ms : List Member) (first : ℕ)
    (read : Entries) (is : List ℕ) (picked : List Member) (es : Entries)
    → MembersAre s base ps (drop first ms) read → Picks read is es → ArePicked ms first is picked
    → MembersAre s base ps picked es
picked_members s base ps ms first read [] [] [] h picks are = tt
picked_members s base ps ms first read (i ∷ is) (m ∷ picked) (e ∷ es) h picks are =
    let same : (first + i) - first ≡ i = omega arith in (
      member_read s base ps (drop first ms) read i m e h picks.0.0
          (are.0 ∙ at_drop ms first (first + i) m (omega arith)
          ∙ ap (λ k. get_or (drop first ms) k m) same) picks.0.1,
      picked_members s base ps ms first read is picked es h picks.1 are.1,
    )
picked_members s base ps ms first read [] [] (e ∷ es) h picks are = absurd picks
picked_members s base ps ms first read [] (m ∷ picked) es h picks are = absurd are
picked_members s base ps ms first read (i ∷ is) picked [] h picks are = absurd picks
picked_members s base ps ms first read (i ∷ is) [] (e ∷ es) h picks are = absurd are

-- ---- the numbers of members by their keys

-- the number of a key
abbrev pub number_of : Vec ℕ × ℕ → ℕ
number_of x = x.1

pub picks_numbers : (read : Entries) (xs : List (Vec ℕ × ℕ)) (es : Entries)
    → AreNumbered read xs es → Picks read (map number_of xs) es
picks_numbers read [] [] h = tt
picks_numbers read (x ∷ xs) (e ∷ es) h = (h.0.1, picks_numbers read xs es h.1)
picks_numbers read [] (e ∷ es) h = absurd h
picks_numbers read (x ∷ xs) [] h = absurd h

abbrev pub by_items : Vec ℕ → Vec ℕ → Ordering
by_items x y = slice_cmp nat_cmp x.items y.items

numbered_inserted : (read : Entries) (xs : List (Vec ℕ × ℕ)) (es : Entries) (key : Vec ℕ) (i : ℕ)
    (k : List ℕ) (t : Tree) → AreNumbered read xs es → key.items ≡ k → i < length read
    → get_or read i (k, t) ≡ (k, t)
    → AreNumbered read (insert_entry by_items xs key i) (insert_entry (slice_cmp nat_cmp) es k t)
numbered_inserted read [] [] key i k t h is low at = ((is, (low, at)), tt)
numbered_inserted read [] (f ∷ es) key i k t h is low at = absurd h
numbered_inserted read (x ∷ xs) [] key i k t h is low at = absurd h
numbered_inserted read (x ∷ xs) (f ∷ es) key i k t h is low at =
    subst (λ o. AreNumbered read (match_ordering o ((key, i) ∷ x ∷ xs) ((x.0, i) ∷ xs)
    (x ∷ insert_entry by_items xs key i)) (insert_entry (slice_cmp nat_cmp) (f ∷ es) k t))
    (sym (ap (λ b. slice_cmp nat_cmp b x.0.items) is ∙ ap (slice_cmp nat_cmp k) h.0.0))
    (by (slice_cmp nat_cmp k f.0) refl (numbered_inserted read xs es key i k t h.1 is low at))
  where
    by : (o : Ordering) → slice_cmp nat_cmp k f.0 ≡ o
        → AreNumbered read (insert_entry by_items xs key i) (insert_entry
        (slice_cmp nat_cmp) es k t)
        → AreNumbered read (match_ordering o ((key, i) ∷ x ∷ xs) ((x.0, i) ∷ xs)
        (x ∷ insert_entry by_items xs key i))
        (match_ordering o ((k, t) ∷ f ∷ es) ((f.0, t) ∷ es)
        (f ∷ insert_entry (slice_cmp nat_cmp) es k t))
    by Less cmp later = ((is, (low, at)), h)
    by Equal cmp later = (
      (
        h.0.0,
        (low, subst (λ l. get_or read i (l, t) ≡ (l, t)) (exact_bytes k f.0 cmp) at),
      ),
      h.1,
    )
    by Greater cmp later = (h.0, later)

-- the key of one more member
pub number_added : (read : Entries) (xs new : List (Vec ℕ × ℕ)) (i : ℕ) (key : Vec ℕ)
    (e : List ℕ × Tree) → AreNumbered read xs (insert_all [] (take i read))
    → new ≡ insert_entry by_items xs key i → key.items ≡ e.0 → i < length read
    → get_or read i e ≡ e → take (i + 1) read ≡ take i read ++ e ∷ []
    → AreNumbered read new (insert_all [] (take (i + 1) read))
number_added read xs new i key e h made is low at next =
    subst (λ ys. AreNumbered read ys (insert_all [] (take (i + 1) read))) (sym made)
    (subst (AreNumbered read (insert_entry by_items xs key i))
    (sym (ap (insert_all []) next ∙ inserts_last [] (take i read) e.0 e.1))
    (numbered_inserted read xs (insert_all [] (take i read)) key i e.0 e.1 h is low at))

-- ---- the parts of members whose places were moved

-- a part after the places from `base` on were moved to be from `to` on
abbrev pub shifted : ℕ → ℕ → Part → Part
shifted to base p = record p {
  first = to + (p.first - base);
  last = to + (p.last - base);
}

abbrev pub place_if : ℕ → Place → List Place
place_if zero x = []
place_if (suc n) x = x ∷ []

-- the parts of the members that are not empty
abbrev pub moved_parts : ℕ → ℕ → List Member → List Place
moved_parts to base [] = []
moved_parts to base (m ∷ ms) =
    place_if m.part.size (place.Part (shifted to base m.part)) ++ moved_parts to base ms

pub moved_snoc : (to base : ℕ) (ms : List Member) (m : Member)
    → moved_parts to base (ms ++ m ∷ [])
    ≡ moved_parts to base ms ++ place_if m.part.size (place.Part (shifted to base m.part))
moved_snoc to base [] m = append-nil (place_if m.part.size (place.Part (shifted to base m.part)))
moved_snoc to base (n ∷ ms) m =
    let first = place_if n.part.size (place.Part (shifted to base n.part)) in
    ap (λ xs. first ++ xs) (moved_snoc to base ms m)
    ∙ sym (append_assoc first (moved_parts to base ms)
    (place_if m.part.size (place.Part (shifted to base m.part))))

-- the places of a part after they were moved
moved_cut : {A : Type 0} (xs ys : List A) (to base first last : ℕ) → to ≡ length xs → base ≤ first
    → first ≤ last
    → cut (to + (first - base)) (to + (last - base)) (xs ++ drop base ys) ≡ cut first last ys
moved_cut xs ys to base first last placed low high =
    let k = first - base in
    let from : drop (to + k) (xs ++ drop base ys) ≡ drop first ys =
    sym (drop-drop k to (xs ++ drop base ys))
    ∙ ap (drop k) (drop_at xs (drop base ys) to (sym placed))
    ∙ drop-drop k base ys ∙ ap (λ n. drop n ys) (omega (arith, low)) in
    ap (take ((to + (last - base)) - (to + k))) from
    ∙ ap (λ n. take n (drop first ys)) (omega (arith, low, high))

pub parts_joined : (old new : Storage) (base : ℕ) (ps : List Place) (ms : List Member)
    (es : Entries) (b to : ℕ) → MembersAre old base ps ms es → AllFit (shapes_of (values_of es))
    → Grows old new → new.moved.items ≡ old.moved.items ++ drop base ps → base ≤ length ps
    → to ≡ length old.moved.items → b ≤ length new.payload.items
    → Joined new b (moved_parts to base ms) b (payloads (shapes_of (values_of es)))
parts_joined old new base ps [] [] b to h fit g moved inside placed low =
    no_place b b [] (omega arith) low (sym (cut_none b new.payload.items))
parts_joined old new base ps [] (e ∷ es) b to h fit g moved inside placed low = absurd h
parts_joined old new base ps (m ∷ ms) [] b to h fit g moved inside placed low = absurd h
parts_joined old new base ps (m ∷ ms) (e ∷ es) b to h fit g moved inside placed low =
    by (parts_joined old new base ps ms es b to h.1 fit.1 g moved inside placed low) m.word h.0.1
  where
    empty : (xs : List ℕ) → length xs ≡ 0 → xs ≡ []
    empty [] none = refl
    empty (x ∷ xs) none = absurd (omega (arith, none))

    sized : Joined new b (moved_parts to base ms) b (payloads (shapes_of (values_of es)))
        → (n : ℕ) → m.part.size ≡ n → (w : ℕ) → PartIs old base ps m.part w e.1
        → Joined new b
        (place_if n (place.Part (shifted to base m.part)) ++ moved_parts to base ms) b
        (payload_of e.1 ++ payloads (shapes_of (values_of es)))
    sized rest zero is w part =
        subst (λ xs. Joined new b (moved_parts to base ms) b
        (xs ++ payloads (shapes_of (values_of es))))
        (sym (empty (payload_of e.1) (sym part.size ∙ is))) rest
    sized rest (suc n) is w part =
        let same : cut (shifted to base m.part).first (shifted to base m.part).last new.moved.items
        ≡ cut m.part.first m.part.last ps =
        ap (λ xs. cut (to + (m.part.first - base)) (to + (m.part.last - base)) xs) moved
        ∙ moved_cut old.moved.items ps to base m.part.first m.part.last placed part.inside part.low
        in
        part_place b b (shifted to base m.part) (moved_parts to base ms) (payload_of e.1)
        (payloads (shapes_of (values_of es)))
        (payload_of e.1 ++ payloads (shapes_of (values_of es)))
        (omega (arith, part.low))
        (omega (
          arith,
          part.high,
          part.inside,
          part.low,
          placed,
          ap length moved,
          length-append old.moved.items (drop base ps),
          length-drop base ps,
        )) (subst IsHeadFirst (sym same) part.front) (omega (arith, is)) part.size
        (subst (λ xs. Joined new m.part.start xs m.part.end (payload_of e.1)) (sym same)
        (joined_grows old new m.part.start (cut m.part.first m.part.last ps) m.part.end
        (payload_of e.1) g part.joined)) rest refl

    by : Joined new b (moved_parts to base ms) b (payloads (shapes_of (values_of es)))
        → (w : Option ℕ) → IsPartIfFit old base ps m.part w e.1
        → Joined new b (moved_parts to base (m ∷ ms)) b (payloads (shapes_of (values_of (e ∷ es))))
    by rest (Some w) part = sized rest m.part.size refl w part
    by rest None never = absurd (never (record { inside = fit.0.1.0; short = fit.0.1.1 }))

-- the parts of these members were put in the place of what was inside the innermost container
pub record PutInOrder (old new : Tape) (ms : List Member) : Type 0 where
  pub payload : new.storage.payload ≡ old.storage.payload
  pub heads : new.storage.heads ≡ old.storage.heads
  pub spelled : new.storage.spelled ≡ old.storage.spelled
  pub moved : new.storage.moved.items
      ≡ old.storage.moved.items ++ drop (old.inner.place + 1) old.places.items
  pub words : new.words ≡ old.words
  pub members : new.members ≡ old.members
  pub inner : new.inner ≡ old.inner
  pub places : new.places.items ≡ take (old.inner.place + 1) old.places.items
      ++ moved_parts (length old.storage.moved.items) (old.inner.place + 1) ms

-- where the part of a member is
pub record IsInside (base n : ℕ) (p : Part) : Type 0 where
  pub from : base ≤ p.first
  pub low : p.first ≤ p.last
  pub high : p.last ≤ n

pub part_inside : (s : Storage) (base : ℕ) (ps : List Place) (ms : List Member) (es : Entries)
    (i : ℕ) (m : Member) → MembersAre s base ps ms es → AllFit (shapes_of (values_of es))
    → i < length ms → m ≡ get_or ms i m → IsInside base (length ps) m.part
part_inside s base ps [] es i m h fit low is = absurd (omega (arith, low))
part_inside s base ps (n ∷ ms) [] i m h fit low is = absurd h
part_inside s base ps (n ∷ ms) (e ∷ es) zero m h fit low is =
    subst (λ x. IsInside base (length ps) x.part) (sym is) (by n.word h.0.1)
  where
    by : (w : Option ℕ) → IsPartIfFit s base ps n.part w e.1 → IsInside base (length ps) n.part
    by (Some w) part = record { from = part.inside; low = part.low; high = part.high }
    by None never = absurd (never (record { inside = fit.0.1.0; short = fit.0.1.1 }))
part_inside s base ps (n ∷ ms) (e ∷ es) (suc i) m h fit low is =
    part_inside s base ps ms es i m h.1 fit.1 (omega (arith, low)) is

pub place_some : (n : ℕ) (x : Place) → 0 < n → place_if n x ≡ x ∷ []
place_some zero x some = absurd (omega (arith, some))
place_some (suc n) x some = refl

pub place_none : (n : ℕ) (x : Place) → n ≤ 0 → place_if n x ≡ []
place_none zero x none = refl
place_none (suc n) x none = absurd (omega (arith, none))

pub cut_more : {A : Type 0} (a i : ℕ) (xs : List A) (x : A) → a ≤ i → i < length xs
    → x ≡ get_or xs i x → cut a (i + 1) xs ≡ cut a i xs ++ x ∷ []
cut_more a i xs x low high is =
    let more : (i + 1) - a ≡ (i - a) + 1 = omega (arith, low) in
    ap (λ n. take n (drop a xs)) more
    ∙ take_more (drop a xs) (i - a) x (omega (arith, low, high, length-drop a xs))
    ∙ ap (λ y. take (i - a) (drop a xs) ++ y ∷ []) (sym (is ∙ at_drop xs a i x low))

pub put_one_more : (old new later : Tape) (ms more : List Member) (m : Member)
    → PutInOrder old new ms → more ≡ ms ++ m ∷ [] → later.storage ≡ new.storage
    → later.words ≡ new.words → later.members ≡ new.members → later.inner ≡ new.inner
    → later.places.items ≡ new.places.items ++ place_if m.part.size (place.Part
    (shifted (length old.storage.moved.items) (old.inner.place + 1) m.part))
    → PutInOrder old later more
put_one_more old new later ms more m put is stored words owned inner placed =
    let to = length old.storage.moved.items in
    let base = old.inner.place + 1 in
    let front = take base old.places.items in
    let last = place_if m.part.size (place.Part (shifted to base m.part)) in
    record {
      payload = ap (λ x. x.payload) stored ∙ put.payload;
      heads = ap (λ x. x.heads) stored ∙ put.heads;
      spelled = ap (λ x. x.spelled) stored ∙ put.spelled;
      moved = ap (λ x. x.moved.items) stored ∙ put.moved;
      words = words ∙ put.words;
      members = owned ∙ put.members;
      inner = inner ∙ put.inner;
      places = placed ∙ ap (λ xs. xs ++ last) put.places
          ∙ append_assoc front (moved_parts to base ms) last
          ∙ ap (λ xs. front ++ xs) (sym (moved_snoc to base ms m))
          ∙ ap (λ xs. front ++ moved_parts to base xs) (sym is);
    }

pub put_grows : (old new : Tape) (ms : List Member) → PutInOrder old new ms
    → Grows old.storage new.storage
put_grows old new ms put = record {
  more_payload = [];
  more_heads = [];
  more_spelled = [];
  more_moved = drop (old.inner.place + 1) old.places.items;
  payload = ap (λ v. v.items) put.payload ∙ sym (append-nil old.storage.payload.items);
  heads = ap (λ v. v.items) put.heads ∙ sym (append-nil old.storage.heads.items);
  spelled = ap (λ v. v.items) put.spelled ∙ sym (append-nil old.storage.spelled.items);
  moved = put.moved;
}

pub put_joined : (old new : Tape) (sorted index : ℕ) (front : Entries) (b : ℕ)
    → PutInOrder old new (cut sorted index old.members.items) → length old.members.items ≤ index
    → old.inner.place < length old.places.items → b ≤ length old.storage.payload.items
    → AllFit (shapes_of (values_of front))
    → MembersAre old.storage (old.inner.place + 1) old.places.items
    (drop sorted old.members.items) front
    → Joined new.storage b (drop (old.inner.place + 1) new.places.items) b
    (payloads (shapes_of (values_of front)))
put_joined old new sorted index front b put all inside low fit are =
    let n = old.inner.place + 1 in
    let ps = old.places.items in
    let ms = drop sorted old.members.items in
    let to = length old.storage.moved.items in
    let every : cut sorted index old.members.items ≡ ms =
    take_all (index - sorted) ms (omega (arith, all, length-drop sorted old.members.items)) in
    let after : drop n new.places.items ≡ moved_parts to n ms =
    ap (drop n) put.places
    ∙ drop_at (take n ps) (moved_parts to n (cut sorted index old.members.items)) n
    (length-take-le n ps (omega (arith, inside)))
    ∙ ap (moved_parts to n) every in
    subst (λ xs. Joined new.storage b xs b (payloads (shapes_of (values_of front)))) (sym after)
    (parts_joined old.storage new.storage n ps ms front b to are fit
    (put_grows old new (cut sorted index old.members.items) put) put.moved (omega
    (arith, inside)) refl
    (omega (arith, low, ap (λ v. length v.items) put.payload)))

-- the members of the innermost container, an object, are after all others in their order
pub record Sorted (old : Tape) (new : List Member) (front : Entries) : Type 0 where
  pub members : MembersAre old.storage (old.inner.place + 1) old.places.items
      (drop (length old.members.items) new) front
  pub ascend : Ascend (pairs front)
  pub long : length old.members.items ≤ length new
  pub kept : take old.inner.members new ≡ take old.inner.members old.members.items

pub sorted_after : (old : Tape) (new : List Member) (order : List ℕ) (front : Entries)
    (cs : List Content) → tape_is old (going (content.members front ∷ cs))
    → ((read : Entries) → MembersAre old.storage (old.inner.place + 1) old.places.items
    (drop old.inner.members old.members.items) read → Picks read order (insert_all [] read))
    → (picked : List Member) × ((new ≡ old.members.items ++ picked)
    × ArePicked old.members.items old.inner.members order picked)
    → Sorted old new front
sorted_after old new order front cs h picks (picked, (grown, are)) =
    let s = old.storage in
    let f = old.inner in
    let ms = old.members.items in
    let read = h.0.read in
    let sorted = picked_members s (f.place + 1) old.places.items ms f.members read order picked
    (insert_all [] read) h.0.members (picks read h.0.members) are in
    let after : drop (length ms) new ≡ picked =
    ap (drop (length ms)) grown ∙ drop_at ms picked (length ms) refl in
    record {
      members = subst (MembersAre s (f.place + 1) old.places.items (drop (length ms) new))
          (sym h.0.is) (subst (λ xs. MembersAre s (f.place + 1) old.places.items xs
          (insert_all [] read)) (sym after) sorted);
      ascend = subst (λ es. Ascend (pairs es)) (sym h.0.is) (all_ascend [] read tt);
      long = omega (arith, ap length grown, length-append ms picked);
      kept = ap (take f.members) grown ∙ take-append-le f.members ms picked h.0.members_from;
    }

-- the count of the members of the innermost container, an object
pub members_count : (old : Tape) (front : Entries) (cs : List Content)
    → (h : tape_is old (going (content.members front ∷ cs)))
    → old.inner.members + length h.0.read ≡ length old.members.items
members_count old front cs h = omega (
  arith,
  as_many old.storage (old.inner.place + 1) old.places.items
      (drop old.inner.members old.members.items) h.0.read h.0.members,
  length-drop old.inner.members old.members.items,
  h.0.members_from,
)
