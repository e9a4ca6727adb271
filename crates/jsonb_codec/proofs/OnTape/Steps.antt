-- Beginning and ending a container, and adding a scalar.
use Rattle.std.proofs.Common.{◌≡◌, ℕ, ◌+◌, ◌-◌, ◌≤◌, refl, sym, ap, subst, ◌∙◌, List, [], ◌∷◌}
use Rattle.std.proofs.Common.{◌++◌, length, arith, length-append, take, drop, Bool, true, false}
use Rattle.std.proofs.Common.{Option, Some, None}
use Rattle.std.proofs.lemmas.List.{append_assoc, append-nil, take-append-le, drop_at, length-take-le}
use Rattle.std.proofs.Math.ListN.{drop_of_length-le}
use Rattle.std.proofs.Math.Seq.{take-add, take-length}
use Rattle.jsonb_value.specs.Tree.{Ascend, Tree, array, object}
use Rattle.jsonb_value.specs.Json.Syntax.{Entries, pairs}
use Rattle.jsonb_value.specs.Value.{trees_of}
use Rattle.jsonb_value.specs.WellFormed.{AreTrees}
use Rattle.jsonb_value.specs.Reader.Resume.{Content, items, members, at_key, going, put, Adds}
use Rattle.jsonb_codec.specs.Shape.{AllFit, payloads}
use Rattle.jsonb_codec.specs.Canon.{payload_of}
use Rattle.jsonb_codec.specs.Tape.{Joined, no_place, IsMade, IsScalar, ValuesAre}
use Rattle.jsonb_codec.specs.Tape.{HasValuesIfFit, MembersAre, ObjectIs, shapes_of, AreOpen}
use Rattle.jsonb_codec.specs.Tape.{tape_is, values_of}
use Rattle.jsonb_codec.specs.Tape.{Grows, IsAround, IsHead, IsHeadIfFit, IsEndedIfFit}
use Rattle.jsonb_codec.specs.declared.tape.Tape.{Tape}
use Rattle.jsonb_codec.specs.declared.tape.entry.Entry.{Entry}
use Rattle.jsonb_codec.specs.declared.tape.member.Member.{Member}
use Rattle.jsonb_codec.specs.declared.tape.place.Frame.{Frame}
use Rattle.jsonb_codec.specs.declared.tape.place.Place.{Place}
use Rattle.jsonb_codec.specs.declared.tape.place.Place.TheVariants as place
use Rattle.jsonb_codec.specs.declared.tape.place.Kind.TheVariants as kind
use Rattle.jsonb_codec.specs.declared.tape.storage.Storage.{Storage}
use Rattle.jsonb_codec.proofs.OnTape.Closing.{head_ended, values_fit}
use Rattle.jsonb_codec.proofs.OnTape.Joined.{cut_none, joined_grows, joined_plain}
use Rattle.jsonb_codec.proofs.OnTape.KeyOrder.{in_order}
use Rattle.jsonb_codec.proofs.OnTape.Open.{open_grows, place_inside}

-- ---- scalars

pub payload_grows : (old new : Storage) (more : List ℕ)
    → new.payload.items ≡ old.payload.items ++ more → new.heads ≡ old.heads
    → new.spelled ≡ old.spelled → new.moved ≡ old.moved → Grows old new
payload_grows old new more payload heads spelled moved = record {
  more_payload = more;
  more_heads = [];
  more_spelled = [];
  more_moved = [];
  payload = payload;
  heads = ap (λ v. v.items) heads ∙ sym (append-nil old.heads.items);
  spelled = ap (λ v. v.items) spelled ∙ sym (append-nil old.spelled.items);
  moved = ap (λ v. v.items) moved ∙ sym (append-nil old.moved.items);
}

pub scalar_made : (old : List ℕ) (new : Storage) (e : Entry) (type : ℕ) (p : List ℕ) (t : Tree)
    → IsScalar type p t → new.payload.items ≡ old ++ p → e.type_code ≡ type → e.size ≡ length p
    → IsMade new (Some e) (length old) [] (length new.payload.items) t
scalar_made old new e type p t is grown tag sized = (
  record {
    tree = is.tree;
    fits = is.fits;
    type = tag ∙ is.type_is;
    size = sized ∙ ap length is.payload_is;
  },
  (
    tt,
    joined_plain new (length old) (payload_of t) (omega (
      arith,
      ap length grown,
      length-append old
          p,
    ))
        (ap (drop (length old)) grown ∙ drop_at old p (length old) refl ∙ is.payload_is),
  ),
)

-- ---- a container begins

take_front : {A : Type 0} (xs ys : List A) (n : ℕ) → n ≡ length xs → take n (xs ++ ys) ≡ xs
take_front xs ys n is = ap (λ k. take k (xs ++ ys)) is
    ∙ take-append-le (length xs) xs ys (omega arith) ∙ take-length xs

take_whole : {A : Type 0} (xs : List A) (n : ℕ) → n ≡ length xs → take n xs ≡ xs
take_whole xs n is = ap (λ k. take k xs) is ∙ take-length xs

-- the frame of a container that begins
pub record Begins (f : Frame) (ps : List Place) (ws : List ℕ) (ms : List Member) (b : ℕ) : Type 0
  where
    pub place_at : f.place ≡ length ps
    pub start_at : f.start ≡ b
    pub words_at : f.words ≡ length ws
    pub members_at : f.members ≡ length ms
    pub fits_all : f.fits ≡ true

after_place : (f g : Frame) (ps : List Place) → g.place ≡ length ps
    → drop (g.place + 1) (ps ++ place.Open f ∷ []) ≡ []
after_place f g ps is = drop_of_length-le (ps ++ place.Open f ∷ [])
    (omega (arith, is, length-append ps (place.Open f ∷ [])))

pub around_begun : (s : Storage) (f g : Frame) (ps : List Place) (ws : List ℕ) (ms : List Member)
    (b : ℕ) (cs : List Content) → AreOpen s f ps ws ms b cs → Begins g ps ws ms b
    → (o : Frame) × ((drop g.place (ps ++ place.Open f ∷ [])
    ≡ place.Open o ∷ drop (g.place + 1) (ps ++ place.Open f ∷ []))
    × AreOpen s o (take g.place (ps ++ place.Open f ∷ [])) (take g.words ws) (take g.members ms)
    g.start cs)
around_begun s f g ps ws ms b cs h is = (
  f,
  (
    ap (λ n. drop n (ps ++ place.Open f ∷ [])) is.place_at
        ∙ drop_at ps (place.Open f ∷ []) (length ps) refl
        ∙ ap (λ xs. place.Open f ∷ xs) (sym (after_place f g ps is.place_at)),
    subst (λ xs. AreOpen s f xs (take g.words ws) (take g.members ms) g.start cs)
        (sym (take_front ps (place.Open f ∷ []) g.place is.place_at))
        (subst (λ xs. AreOpen s f ps xs (take g.members ms) g.start cs)
        (sym (take_whole ws g.words is.words_at))
        (subst (λ xs. AreOpen s f ps ws xs g.start cs) (sym (take_whole ms g.members is.members_at))
        (subst (λ k. AreOpen s f ps ws ms k cs) (sym is.start_at) h))),
  ),
)

values_begun : (s : Storage) (f g : Frame) (ps : List Place) (ws : List ℕ) (ms : List Member)
    (b : ℕ) → Begins g ps ws ms b → b ≤ length s.payload.items
    → HasValuesIfFit g.fits s g.start (drop (g.place + 1) (ps ++ place.Open f ∷ [])) b []
values_begun s f g ps ws ms b is low =
    subst (λ on. HasValuesIfFit on s g.start (drop (g.place + 1) (ps ++ place.Open f ∷ [])) b [])
    (sym is.fits_all) (record {
      trees = tt;
      fit = tt;
      joined = subst (λ xs. Joined s g.start xs b []) (sym (after_place f g ps is.place_at))
          (no_place g.start b [] (omega (arith, is.start_at)) low
          (sym (ap (λ k. take (b - k) (drop k s.payload.items)) is.start_at
          ∙ cut_none b s.payload.items)));
    })

pub array_begins : (s : Storage) (f g : Frame) (ps : List Place) (ws : List ℕ) (ms : List Member)
    (b : ℕ) (cs : List Content) → AreOpen s f ps ws ms b cs → Begins g ps ws ms b
    → g.kind ≡ kind.Array → b ≤ length s.payload.items
    → AreOpen s g (ps ++ place.Open f ∷ []) ws ms b (items [] ∷ cs)
array_begins s f g ps ws ms b cs h is kind_is low = (
  record {
    kind_is = kind_is;
    start_from = omega (arith, is.start_at);
    words_from = omega (arith, is.words_at);
    members_from = omega (arith, is.members_at);
    values = values_begun s f g ps ws ms b is low;
    words = λ on. drop_of_length-le ws (omega (arith, is.words_at));
  },
  around_begun s f g ps ws ms b cs h is,
)

pub object_begins : (s : Storage) (f g : Frame) (ps : List Place) (ws : List ℕ) (ms : List Member)
    (b : ℕ) (cs : List Content) → AreOpen s f ps ws ms b cs → Begins g ps ws ms b
    → g.kind ≡ kind.Object → b ≤ length s.payload.items
    → AreOpen s g (ps ++ place.Open f ∷ []) ws ms b (members [] ∷ cs)
object_begins s f g ps ws ms b cs h is kind_is low = (
  record {
    kind_is = kind_is;
    start_from = omega (arith, is.start_at);
    words_from = omega (arith, is.words_at);
    members_from = omega (arith, is.members_at);
    read = [];
    members = subst (λ xs. MembersAre s (g.place + 1) (ps ++ place.Open f ∷ []) xs [])
        (sym (drop_of_length-le ms (omega (arith, is.members_at)))) tt;
    is = refl;
    ascend = λ on. tt;
    values = values_begun s f g ps ws ms b is low;
  },
  around_begun s f g ps ws ms b cs h is,
)

-- ---- a container ends

starts_low : (s : Storage) (f : Frame) (ps : List Place) (ws : List ℕ) (ms : List Member) (b : ℕ)
    (c : Content) (cs : List Content) → AreOpen s f ps ws ms b (c ∷ cs) → f.start ≤ b
starts_low s f ps ws ms b (items front) cs h = h.0.start_from
starts_low s f ps ws ms b (members front) cs h = h.0.start_from
starts_low s f ps ws ms b (at_key front key) cs h = h.0.start_from

-- what is around the innermost container, after more was stored
pub is_around : (t : Tape) (s : Storage) (c : Content) (cs : List Content)
    → tape_is t (going (c ∷ cs)) → Grows t.storage s
    → (g : Frame) × IsAround (record t { storage = s }) g cs
is_around t s c cs h g =
    let (own, (outer, (at, around))) = h in (
      outer,
      record {
        start_from = omega (
          arith,
          starts_low t.storage t.inner t.places.items t.words.items t.members.items
              (length t.storage.payload.items) c cs h,
          ap length g.payload,
          length-append t.storage.payload.items g.more_payload,
        );
        place_is = at;
        around = open_grows t.storage s outer (take t.inner.place t.places.items)
            (take t.inner.words t.words.items) (take t.inner.members t.members.items) t.inner.start
            cs g around;
      },
    )

-- an array that fits and whose head was stored, or one that does not fit
pub array_ended : (s new : Storage) (f : Frame) (ps : List Place) (ws : List ℕ) (ms : List Member)
    (ts : List Tree) (cs : List Content) (start : ℕ) (size : Option ℕ)
    → AreOpen s f ps ws ms (length s.payload.items) (items ts ∷ cs) → f.fits ≡ true
    → Grows s new → start ≡ length s.heads.items
    → (AreTrees (trees_of ts) → AllFit (shapes_of ts)
    → IsHeadIfFit s new size (payloads (shapes_of ts)) (array (trees_of ts)))
    → IsEndedIfFit new start f.start (drop (f.place + 1) ps) size (array (trees_of ts))
array_ended s new f ps ws ms ts cs start size h on g begins made =
    let held = subst (λ b. HasValuesIfFit b s f.start (drop (f.place + 1) ps)
    (length s.payload.items) ts) on h.0.values in
    by size held (made held.trees held.fit)
  where
    by : (size : Option ℕ) → ValuesAre s f.start (drop (f.place + 1) ps) (length s.payload.items) ts
        → IsHeadIfFit s new size (payloads (shapes_of ts)) (array (trees_of ts))
        → IsEndedIfFit new start f.start (drop (f.place + 1) ps) size (array (trees_of ts))
    by None held never = never
    by (Some n) held head =
        head_ended s new new n start f.start (payloads (shapes_of ts)) (drop (f.place + 1) ps)
        (array (trees_of ts)) head begins refl refl
        (subst (λ k. Joined new f.start (drop (f.place + 1) ps) k (payloads (shapes_of ts)))
        (ap (λ v. length v.items) (sym head.stored.payload))
        (joined_grows s new f.start (drop (f.place + 1) ps) (length s.payload.items)
        (payloads (shapes_of ts)) g held.joined))

-- ---- an object ends

-- ascending members are in their order
pub read_in_order : (s : Storage) (f : Frame) (ps : List Place) (ws : List ℕ) (ms : List Member)
    (b : ℕ) (front : Entries) → ObjectIs s f ps ws ms b front → f.ascends ≡ true
    → MembersAre s (f.place + 1) ps (drop f.members ms) front × Ascend (pairs front)
read_in_order s f ps ws ms b front h on =
    let same = h.is ∙ in_order [] h.read (h.ascend on) in (
      subst (MembersAre s (f.place + 1) ps (drop f.members ms)) (sym same) h.members,
      subst (λ es. Ascend (pairs es)) (sym same) (h.ascend on),
    )

-- an object whose keys ascend, and whose head was stored if it fits
pub object_ended : (s new : Storage) (f : Frame) (ps : List Place) (ws : List ℕ) (ms : List Member)
    (front : Entries) (start : ℕ) (size : Option ℕ)
    → ObjectIs s f ps ws ms (length s.payload.items) front → f.ascends ≡ true → Grows s new
    → start ≡ length s.heads.items
    → IsHeadIfFit s new size (payloads (shapes_of (values_of front))) (object (pairs front))
    → IsEndedIfFit new start f.start (drop (f.place + 1) ps) size (object (pairs front))
object_ended s new f ps ws ms front start size h on g begins made =
    by f.fits size (subst (λ es. HasValuesIfFit f.fits s f.start (drop (f.place + 1) ps)
    (length s.payload.items) (values_of es)) (sym same) h.values) made
  where
    same : front ≡ h.read
    same = h.is ∙ in_order [] h.read (h.ascend on)

    by : (fits : Bool) (size : Option ℕ) → HasValuesIfFit fits s f.start (drop (f.place + 1) ps)
        (length s.payload.items) (values_of front)
        → IsHeadIfFit s new size (payloads (shapes_of (values_of front))) (object (pairs front))
        → IsEndedIfFit new start f.start (drop (f.place + 1) ps) size (object (pairs front))
    by fits None values never = never
    by false (Some n) never head = absurd (never (values_fit front head.fits.1))
    by true (Some n) held head =
        head_ended s new new n start f.start (payloads (shapes_of (values_of front)))
        (drop (f.place + 1) ps) (object (pairs front)) head begins refl refl
        (subst (λ k. Joined new f.start (drop (f.place + 1) ps) k
        (payloads (shapes_of (values_of front)))) (ap (λ v. length v.items)
        (sym head.stored.payload))
        (joined_grows s new f.start (drop (f.place + 1) ps) (length s.payload.items)
        (payloads (shapes_of (values_of front))) g held.joined))

-- the place of the innermost container stays where parts come after it
pub place_stays : (f g : Frame) (ps new qs : List Place)
    → drop f.place ps ≡ place.Open g ∷ drop (f.place + 1) ps → new ≡ take (f.place + 1) ps ++ qs
    → (drop f.place new ≡ place.Open g ∷ drop (f.place + 1) new)
    × (take f.place new ≡ take f.place ps)
place_stays f g ps new qs at is =
    let inside = place_inside f.place ps (drop (f.place + 1) ps) (place.Open g) at in
    let n = f.place in
    let front : take (n + 1) ps ≡ take n ps ++ place.Open g ∷ [] =
    take-add n 1 ps ∙ ap (λ xs. take n ps ++ take 1 xs) at in
    let split : new ≡ take n ps ++ (place.Open g ∷ qs) =
    is ∙ ap (λ xs. xs ++ qs) front ∙ append_assoc (take n ps) (place.Open g ∷ []) qs in
    let later : drop (n + 1) new ≡ qs =
    ap (drop (n + 1)) is
    ∙ drop_at (take (n + 1) ps) qs (n + 1) (length-take-le (n + 1) ps inside) in (
      ap (drop n) split
          ∙ drop_at (take n ps) (place.Open g ∷ qs) n
          (length-take-le n ps (omega (arith, inside)))
          ∙ ap (λ xs. place.Open g ∷ xs) (sym later),
      ap (take n) split
          ∙ take_front (take n ps) (place.Open g ∷ qs) n
          (sym (length-take-le n ps (omega (arith, inside)))),
    )

-- an object whose parts were put in order, and whose head was stored
pub unordered_ended : (old headed new : Storage) (n start until : ℕ) (ps : List Place)
    (front : Entries)
    → IsHead old headed n (payloads (shapes_of (values_of front))) (object (pairs front))
    → start ≡ length old.heads.items → new.heads ≡ headed.heads → until ≡ length new.payload.items
    → Joined new until ps until (payloads (shapes_of (values_of front)))
    → IsEndedIfFit new start until ps (Some n) (object (pairs front))
unordered_ended old headed new n start until ps front head begins heads end joined =
    head_ended old headed new n start until (payloads (shapes_of (values_of front))) ps
    (object (pairs front)) head begins heads refl
    (subst (λ k. Joined new until ps k (payloads (shapes_of (values_of front)))) end joined)

-- what is around an object whose parts were put in order
pub around_ordered : (old new : Tape) (c : Content) (cs : List Content) (qs : List Place)
    → tape_is old (going (c ∷ cs)) → Grows old.storage new.storage → new.inner ≡ old.inner
    → new.places.items ≡ take (old.inner.place + 1) old.places.items ++ qs
    → take old.inner.words new.words.items ≡ take old.inner.words old.words.items
    → take old.inner.members new.members.items ≡ take old.inner.members old.members.items
    → (g : Frame) × IsAround new g cs
around_ordered old new c cs qs h g same placed words owned =
    let (own, (outer, (at, around))) = h in
    let f = old.inner in
    let stays = place_stays f outer old.places.items new.places.items qs at placed in
    let kept = open_grows old.storage new.storage outer (take f.place old.places.items)
    (take f.words old.words.items) (take f.members old.members.items) f.start cs g around in (
      outer,
      record {
        start_from = omega (
          arith,
          ap (λ x. x.start) same,
          starts_low old.storage f old.places.items old.words.items old.members.items
              (length old.storage.payload.items) c cs h,
          ap length g.payload,
          length-append old.storage.payload.items g.more_payload,
        );
        place_is = subst (λ x. drop x.place new.places.items
            ≡ place.Open outer ∷ drop (x.place + 1) new.places.items) (sym same) stays.0;
        around = subst (λ x. AreOpen new.storage outer (take x.place new.places.items)
            (take x.words new.words.items) (take x.members new.members.items) x.start cs) (sym same)
            (subst (λ xs. AreOpen new.storage outer xs (take f.words new.words.items)
            (take f.members new.members.items) f.start cs) (sym stays.1)
            (subst (λ xs. AreOpen new.storage outer (take f.place old.places.items) xs
            (take f.members new.members.items) f.start cs) (sym words)
            (subst (λ xs. AreOpen new.storage outer (take f.place old.places.items)
            (take f.words old.words.items) xs f.start cs) (sym owned) kept)));
      },
    )

-- ---- room

-- only the room for more changed
pub room_made : (old new : Tape) → new.storage.payload.items ≡ old.storage.payload.items
    → new.storage.heads.items ≡ old.storage.heads.items
    → new.storage.spelled.items ≡ old.storage.spelled.items
    → new.storage.moved.items ≡ old.storage.moved.items → new.places.items ≡ old.places.items
    → new.words.items ≡ old.words.items → new.members.items ≡ old.members.items
    → new.inner ≡ old.inner → (cs : List Content) → tape_is old (going cs)
    → tape_is new (going cs)
room_made old new payload heads spelled moved places words owned inner cs h =
    let grows : Grows old.storage new.storage = record {
      more_payload = [];
      more_heads = [];
      more_spelled = [];
      more_moved = [];
      payload = payload ∙ sym (append-nil old.storage.payload.items);
      heads = heads ∙ sym (append-nil old.storage.heads.items);
      spelled = spelled ∙ sym (append-nil old.storage.spelled.items);
      moved = moved ∙ sym (append-nil old.storage.moved.items);
    } in
    let all = open_grows old.storage new.storage old.inner old.places.items old.words.items
    old.members.items (length old.storage.payload.items) cs grows h in
    subst (λ f. AreOpen new.storage f new.places.items new.words.items new.members.items
    (length new.storage.payload.items) cs) (sym inner)
    (subst (λ xs. AreOpen new.storage old.inner xs new.words.items new.members.items
    (length new.storage.payload.items) cs) (sym places)
    (subst (λ xs. AreOpen new.storage old.inner old.places.items xs new.members.items
    (length new.storage.payload.items) cs) (sym words)
    (subst (λ xs. AreOpen new.storage old.inner old.places.items old.words.items xs
    (length new.storage.payload.items) cs) (sym owned)
    (subst (λ xs. AreOpen new.storage old.inner old.places.items old.words.items old.members.items
    (length xs) cs) (sym payload) all))))

-- ---- a scalar is added

pub scalar_adds : (old new : Tape) (mid : Storage) (e : Entry) (type : ℕ) (p : List ℕ)
    → mid.payload.items ≡ old.storage.payload.items ++ p → Grows old.storage mid
    → e.type_code ≡ type → e.size ≡ length p
    → ((ps qs : List Place) (a : ℕ) (cs : List Content) (t : Tree) → old.places.items ≡ ps ++ qs
    → AreOpen mid old.inner ps old.words.items old.members.items a cs → a ≤ length mid.payload.items
    → IsMade mid (Some e) a qs (length mid.payload.items) t → tape_is new (put t cs))
    → (t : Tree) → IsScalar type p t → Adds tape_is old new t
scalar_adds old new mid e type p grown grows tag sized ok t is = λ cs h.
    ok old.places.items [] (length old.storage.payload.items) cs t (sym
    (append-nil old.places.items))
    (open_grows old.storage mid old.inner old.places.items old.words.items old.members.items
    (length old.storage.payload.items) cs grows h)
    (omega (arith, ap length grown, length-append old.storage.payload.items p))
    (scalar_made old.storage.payload.items mid e type p t is grown tag sized)
