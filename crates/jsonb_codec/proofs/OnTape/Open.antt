-- What is open stays as it is while more is stored, and takes one more value.
use Rattle.std.proofs.Common.{◌≡◌, ℕ, ◌+◌, ◌-◌, ◌<◌, ◌≤◌, ◌^◌, refl, sym, ap, subst, ◌∙◌, List, [], ◌∷◌}
use Rattle.std.proofs.Common.{◌++◌, length, arith, length-append, take, drop, Bool, true, false}
use Rattle.std.proofs.Common.{Option, Some, None, get_or}
use Rattle.std.proofs.lemmas.List.{append_assoc, append-nil, take-append-le, drop-append-le, drop_at}
use Rattle.std.proofs.lemmas.List.{length-drop}
use Rattle.std.proofs.Math.Seq.{take-length}
use Rattle.std.specs.Ordering.{nat_cmp}
use Rattle.std.specs.Cmp.Lexicographic.{slice_cmp}
use Rattle.std.specs.BTreeMap.{insert_entry}
use Rattle.jsonb_value.specs.Tree.{Tree}
use Rattle.jsonb_value.specs.Json.Syntax.{Entries}
use Rattle.jsonb_value.specs.Reader.Resume.{Content, items, members, at_key}
use Rattle.jsonb_codec.specs.WordBytes.{word}
use Rattle.jsonb_codec.specs.Shape.{FitsEntry, entries, payloads}
use Rattle.jsonb_codec.specs.Canon.{shape_of, payload_of}
use Rattle.jsonb_codec.specs.Tape.{cut, IsHeadFirst, Joined, EntryIs, HasValuesIfFit}
use Rattle.jsonb_codec.specs.Tape.{IsPartIfFit, KeyIs, MembersAre, values_of, shapes_of}
use Rattle.jsonb_codec.specs.Tape.{ContainerIs, AreOpen, Grows}
use Rattle.jsonb_codec.specs.declared.tape.entry.Entry.{Entry}
use Rattle.jsonb_codec.specs.declared.tape.key.Key.{Key}
use Rattle.jsonb_codec.specs.declared.tape.key.Key.TheVariants as keys
use Rattle.jsonb_codec.specs.declared.tape.member.Member.{Member}
use Rattle.jsonb_codec.specs.declared.tape.place.Frame.{Frame}
use Rattle.jsonb_codec.specs.declared.tape.place.Part.{Part}
use Rattle.jsonb_codec.specs.declared.tape.place.Place.{Place}
use Rattle.jsonb_codec.specs.declared.tape.place.Place.TheVariants as place
use Rattle.jsonb_codec.specs.declared.tape.storage.Storage.{Storage}
use Rattle.jsonb_codec.proofs.OnTape.Items.{all_fit_front, entries_snoc, fit_last, fit_snoc}
use Rattle.jsonb_codec.proofs.OnTape.Items.{payloads_snoc, trees_snoc}
use Rattle.jsonb_codec.proofs.OnTape.Joined.{cut_grows, joined_append, joined_grows}
use Rattle.jsonb_codec.proofs.OnTape.KeyOrder.{inserts_last}

-- ---- growth

pub nothing_grows : (s : Storage) → Grows s s
nothing_grows s = record {
  more_payload = [];
  more_heads = [];
  more_spelled = [];
  more_moved = [];
  payload = sym (append-nil s.payload.items);
  heads = sym (append-nil s.heads.items);
  spelled = sym (append-nil s.spelled.items);
  moved = sym (append-nil s.moved.items);
}

pub grows_further : (old mid new : Storage) → Grows old mid → Grows mid new → Grows old new
grows_further old mid new g h = record {
  more_payload = g.more_payload ++ h.more_payload;
  more_heads = g.more_heads ++ h.more_heads;
  more_spelled = g.more_spelled ++ h.more_spelled;
  more_moved = g.more_moved ++ h.more_moved;
  payload = h.payload ∙ ap (λ x. x ++ h.more_payload) g.payload
      ∙ append_assoc old.payload.items g.more_payload h.more_payload;
  heads = h.heads ∙ ap (λ x. x ++ h.more_heads) g.heads
      ∙ append_assoc old.heads.items g.more_heads h.more_heads;
  spelled = h.spelled ∙ ap (λ x. x ++ h.more_spelled) g.spelled
      ∙ append_assoc old.spelled.items g.more_spelled h.more_spelled;
  moved = h.moved ∙ ap (λ x. x ++ h.more_moved) g.moved
      ∙ append_assoc old.moved.items g.more_moved h.more_moved;
}

pub key_grows : (old new : Storage) (k : Key) (n : ℕ) (bytes : List ℕ) → Grows old new
    → KeyIs old k n bytes → KeyIs new k n bytes
key_grows old new (keys.Text text) n bytes g h = record {
  is_key = tt;
  same = h.same;
  number = h.number;
  utf8 = h.utf8;
}
key_grows old new (keys.Spelled a b) n bytes g h = record {
  is_key = (
    h.is_key.0,
    omega (
      arith,
      h.is_key.1,
      ap length g.spelled,
      length-append old.spelled.items g.more_spelled,
    ),
  );
  same = ap (λ xs. cut a b xs) g.spelled
      ∙ cut_grows a b old.spelled.items g.more_spelled h.is_key.0 h.is_key.1 ∙ h.same;
  number = h.number;
  utf8 = h.utf8;
}

part_grows : (old new : Storage) (base : ℕ) (ps more : List Place) (p : Part) (w : Option ℕ)
    (t : Tree) → Grows old new → IsPartIfFit old base ps p w t
    → IsPartIfFit new base (ps ++ more) p w t
part_grows old new base ps more p None t g h = h
part_grows old new base ps more p (Some w) t g h =
    let same = cut_grows p.first p.last ps more h.low h.high in
    record {
      tree = h.tree;
      fits = h.fits;
      word_is = h.word_is;
      size = h.size;
      inside = h.inside;
      low = h.low;
      high = omega (arith, h.high, length-append ps more);
      front = subst IsHeadFirst (sym same) h.front;
      joined = subst (λ xs. Joined new p.start xs p.end (payload_of t)) (sym same)
          (joined_grows old new p.start (cut p.first p.last ps) p.end (payload_of t) g h.joined);
    }

pub members_grow : (old new : Storage) (base : ℕ) (ps more : List Place) (ms : List Member)
    (es : Entries) → Grows old new → MembersAre old base ps ms es
    → MembersAre new base (ps ++ more) ms es
members_grow old new base ps more [] [] g h = tt
members_grow old new base ps more (m ∷ ms) (e ∷ es) g h = (
  (
    key_grows old new m.key m.prefix e.0 g h.0.0,
    part_grows old new base ps more m.part m.word e.1 g h.0.1,
  ),
  members_grow old new base ps more ms es g h.1,
)
members_grow old new base ps more [] (e ∷ es) g h = absurd h
members_grow old new base ps more (m ∷ ms) [] g h = absurd h

pub members_stay : (old new : Storage) (base : ℕ) (ps : List Place) (ms : List Member)
    (es : Entries)
    → Grows old new → MembersAre old base ps ms es → MembersAre new base ps ms es
members_stay old new base ps ms es g h = subst (λ xs. MembersAre new base xs ms es) (append-nil ps)
    (members_grow old new base ps [] ms es g h)

values_grow : (old new : Storage) (on : Bool) (a : ℕ) (ps : List Place) (b : ℕ) (ts : List Tree)
    → Grows old new → HasValuesIfFit on old a ps b ts → HasValuesIfFit on new a ps b ts
values_grow old new false a ps b ts g h = h
values_grow old new true a ps b ts g h = record {
  trees = h.trees;
  fit = h.fit;
  joined = joined_grows old new a ps b (payloads (shapes_of ts)) g h.joined;
}

container_grows : (old new : Storage) (f : Frame) (ps : List Place) (ws : List ℕ)
    (ms : List Member) (b : ℕ) (c : Content) → Grows old new → ContainerIs old f ps ws ms b c
    → ContainerIs new f ps ws ms b c
container_grows old new f ps ws ms b (items front) g h = record {
  kind_is = h.kind_is;
  start_from = h.start_from;
  words_from = h.words_from;
  members_from = h.members_from;
  values = values_grow old new f.fits f.start (drop (f.place + 1) ps) b front g h.values;
  words = h.words;
}
container_grows old new f ps ws ms b (members front) g h = record {
  kind_is = h.kind_is;
  start_from = h.start_from;
  words_from = h.words_from;
  members_from = h.members_from;
  read = h.read;
  members = members_stay old new (f.place + 1) ps (drop f.members ms) h.read g h.members;
  is = h.is;
  ascend = h.ascend;
  values = values_grow old new f.fits f.start (drop (f.place + 1) ps) b (values_of h.read) g
      h.values;
}
container_grows old new f ps ws ms b (at_key front key) g h = record {
  kind_is = h.kind_is;
  start_from = h.start_from;
  words_from = h.words_from;
  before = h.before;
  last = h.last;
  all = h.all;
  members_from = h.members_from;
  read = h.read;
  members = members_stay old new (f.place + 1) ps (drop f.members h.before) h.read g h.members;
  is = h.is;
  has_key = key_grows old new h.last.key h.last.prefix key g h.has_key;
  start = h.start;
  first = h.first;
  ascend = h.ascend;
  values = values_grow old new f.fits f.start (drop (f.place + 1) ps) b (values_of h.read) g
      h.values;
}

pub open_grows : (old new : Storage) (f : Frame) (ps : List Place) (ws : List ℕ)
    (ms : List Member) (b : ℕ) (cs : List Content) → Grows old new → AreOpen old f ps ws ms b cs
    → AreOpen new f ps ws ms b cs
open_grows old new f ps ws ms b [] g h = h
open_grows old new f ps ws ms b (c ∷ cs) g (h, (outer, (at, around))) = (
  container_grows old new f ps ws ms b c g h,
  (
    outer,
    (
      at,
      open_grows old new outer (take f.place ps) (take f.words ws) (take f.members ms) f.start cs g
          around,
    ),
  ),
)

-- ---- one more value

pub place_inside : {A : Type 0} (n : ℕ) (xs ys : List A) (x : A) → drop n xs ≡ x ∷ ys
    → n + 1 ≤ length xs
place_inside n xs ys x is = omega (arith, ap length is, length-drop n xs)

pub around_more : (f g : Frame) (ps qs : List Place)
    → drop f.place ps ≡ place.Open g ∷ drop (f.place + 1) ps
    → drop f.place (ps ++ qs) ≡ place.Open g ∷ drop (f.place + 1) (ps ++ qs)
around_more f g ps qs is =
    let inside = place_inside f.place ps (drop (f.place + 1) ps) (place.Open g) is in
    drop-append-le f.place ps qs (omega (arith, inside)) ∙ ap (λ x. x ++ qs) is
    ∙ ap (λ x. place.Open g ∷ x) (sym (drop-append-le (f.place + 1) ps qs inside))

pub values_more : (on : Bool) (s : Storage) (a m b : ℕ) (ps qs : List Place) (ts : List Tree)
    (t : Tree) (e : Entry) → HasValuesIfFit on s a ps m ts → EntryIs e t → e.size < 2 ^ 28
    → IsHeadFirst qs → Joined s m qs b (payload_of t)
    → HasValuesIfFit on s a (ps ++ qs) b (ts ++ t ∷ [])
values_more false s a m b ps qs ts t e never is short front joined =
    λ fit. never (all_fit_front ts t fit)
values_more true s a m b ps qs ts t e h is short front joined = record {
  trees = trees_snoc ts t h.trees is.tree;
  fit = fit_snoc ts t h.fit is.fits (omega (arith, is.size, short));
  joined = subst (Joined s a (ps ++ qs) b) (sym (payloads_snoc ts t))
      (joined_append s a m b ps qs (payloads (shapes_of ts)) (payload_of t) h.joined front joined);
}

pub never_fits : (s : Storage) (a b : ℕ) (ps : List Place) (ts : List Tree) (t : Tree)
    → (FitsEntry (shape_of t) → ⊥) → HasValuesIfFit false s a ps b (ts ++ t ∷ [])
never_fits s a b ps ts t never =
    λ fit. let last = fit_last ts t fit in never (record { inside = last.0; short = last.1 })

-- an item that fits
pub item_added : (s : Storage) (f : Frame) (ps qs : List Place) (ws : List ℕ) (ms : List Member)
    (m b w : ℕ) (front : List Tree) (cs : List Content) (t : Tree) (e : Entry)
    → AreOpen s f ps ws ms m (items front ∷ cs) → EntryIs e t → e.size < 2 ^ 28
    → w ≡ e.type_code + e.size → IsHeadFirst qs → Joined s m qs b (payload_of t) → m ≤ b
    → AreOpen s f (ps ++ qs) (ws ++ word w) ms b (items (front ++ t ∷ []) ∷ cs)
item_added s f ps qs ws ms m b w front cs t e (h, (g, (at, around))) is short w_is first joined
    further =
    let inside = place_inside f.place ps (drop (f.place + 1) ps) (place.Open g) at in (
      record {
        kind_is = h.kind_is;
        start_from = omega (arith, h.start_from, further);
        words_from = omega (arith, h.words_from, length-append ws (word w));
        members_from = h.members_from;
        values = subst (λ xs. HasValuesIfFit f.fits s f.start xs b (front ++ t ∷ []))
            (sym (drop-append-le (f.place + 1) ps qs inside))
            (values_more f.fits s f.start m b (drop (f.place + 1) ps) qs front t e h.values is
            short first joined);
        words = λ on. drop-append-le f.words ws (word w) h.words_from
            ∙ ap (λ x. x ++ word w) (h.words on)
            ∙ ap (λ n. entries (shapes_of front) ++ word n) (omega (arith, w_is, is.type, is.size))
            ∙ sym (entries_snoc front t);
      },
      (
        g,
        (
          around_more f g ps qs at,
          subst (λ xs. AreOpen s g xs (take f.words (ws ++ word w)) (take f.members ms) f.start cs)
              (sym (take-append-le f.place ps qs (omega (arith, inside))))
              (subst (λ xs. AreOpen s g (take f.place ps) xs (take f.members ms) f.start cs)
              (sym (take-append-le f.words ws (word w) h.words_from)) around),
        ),
      ),
    )

-- an item that does not fit
pub item_unfit : (s : Storage) (f : Frame) (ps qs : List Place) (ws : List ℕ) (ms : List Member)
    (m b : ℕ) (front : List Tree) (cs : List Content) (t : Tree)
    → AreOpen s f ps ws ms m (items front ∷ cs) → (FitsEntry (shape_of t) → ⊥) → m ≤ b
    → AreOpen s (record f { fits = false }) (ps ++ qs) ws ms b (items (front ++ t ∷ []) ∷ cs)
item_unfit s f ps qs ws ms m b front cs t (h, (g, (at, around))) never further =
    let inside = place_inside f.place ps (drop (f.place + 1) ps) (place.Open g) at in (
      record {
        kind_is = h.kind_is;
        start_from = omega (arith, h.start_from, further);
        words_from = h.words_from;
        members_from = h.members_from;
        values = never_fits s f.start b (drop (f.place + 1) (ps ++ qs)) front t never;
        words = λ on. absurd (off on);
      },
      (
        g,
        (
          around_more f g ps qs at,
          subst (λ xs. AreOpen s g xs (take f.words ws) (take f.members ms) f.start cs)
              (sym (take-append-le f.place ps qs (omega (arith, inside)))) around,
        ),
      ),
    )
  where
    off : false ≡ true → ⊥
    off is = grind (arith, is)

-- ---- one more member

pub members_snoc : (s : Storage) (base : ℕ) (ps : List Place) (ms : List Member) (es : Entries)
    (m : Member) (e : List ℕ × Tree) → MembersAre s base ps ms es → KeyIs s m.key m.prefix e.0
    → IsPartIfFit s base ps m.part m.word e.1
    → MembersAre s base ps (ms ++ m ∷ []) (es ++ e ∷ [])
members_snoc s base ps [] [] m e h key part = ((key, part), tt)
members_snoc s base ps (n ∷ ms) (f ∷ es) m e h key part =
    (h.0, members_snoc s base ps ms es m e h.1 key part)
members_snoc s base ps [] (f ∷ es) m e h key part = absurd h
members_snoc s base ps (n ∷ ms) [] m e h key part = absurd h

pub values_snoc : (es : Entries) (e : List ℕ × Tree)
    → values_of (es ++ e ∷ []) ≡ values_of es ++ e.1 ∷ []
values_snoc [] e = refl
values_snoc (f ∷ es) e = ap (λ x. f.1 ∷ x) (values_snoc es e)

pub cut_last : {A : Type 0} (xs ys : List A) → cut (length xs) (length (xs ++ ys)) (xs ++ ys) ≡ ys
cut_last xs ys =
    ap (take (length (xs ++ ys) - length xs)) (drop_at xs ys (length xs) refl)
    ∙ ap (λ n. take n ys) (omega (arith, length-append xs ys)) ∙ take-length ys

-- the value of the last member, as it was set
pub record IsSet (m n : Member) (w : Option ℕ) (end last size : ℕ) : Type 0 where
  pub key : n.key ≡ m.key
  pub prefix : n.prefix ≡ m.prefix
  pub word_is : n.word ≡ w
  pub start : n.part.start ≡ m.part.start
  pub first : n.part.first ≡ m.part.first
  pub end_is : n.part.end ≡ end
  pub last_is : n.part.last ≡ last
  pub size_is : n.part.size ≡ size

-- a value that fits
pub part_set : (s : Storage) (base : ℕ) (ps qs : List Place) (m n : Member) (a b w : ℕ) (t : Tree)
    (e : Entry) → IsSet m n (Some w) b (length (ps ++ qs)) e.size → m.part.start ≡ a
    → m.part.first ≡ length ps → base ≤ length ps → EntryIs e t → e.size < 2 ^ 28
    → w ≡ e.type_code + e.size → IsHeadFirst qs → Joined s a qs b (payload_of t)
    → IsPartIfFit s base (ps ++ qs) n.part n.word t
part_set s base ps qs m n a b w t e set start first inside is short w_is front joined =
    subst (λ x. IsPartIfFit s base (ps ++ qs) n.part x t) (sym set.word_is) (record {
      tree = is.tree;
      fits = record { inside = is.fits; short = omega (arith, is.size, short) };
      word_is = w_is ∙ omega (arith, is.type, is.size);
      size = set.size_is ∙ is.size;
      inside = omega (arith, inside, first, set.first);
      low = omega (arith, first, set.first, set.last_is, length-append ps qs);
      high = omega (arith, set.last_is);
      front = subst IsHeadFirst (sym same) front;
      joined = subst (λ k. Joined s k (cut n.part.first n.part.last (ps ++ qs)) n.part.end
          (payload_of t)) (sym (set.start ∙ start))
          (subst (λ xs. Joined s a xs n.part.end (payload_of t)) (sym same)
          (subst (λ k. Joined s a qs k (payload_of t)) (sym set.end_is) joined));
    })
  where
    same : cut n.part.first n.part.last (ps ++ qs) ≡ qs
    same = ap (λ k. cut k n.part.last (ps ++ qs)) (set.first ∙ first)
        ∙ ap (λ k. cut (length ps) k (ps ++ qs)) set.last_is ∙ cut_last ps qs

take_front : {A : Type 0} (xs : List A) (x : A) → take (length xs) (xs ++ x ∷ []) ≡ xs
take_front xs x = take-append-le (length xs) xs (x ∷ []) (omega arith) ∙ take-length xs

pub last_same : {A : Type 0} (xs ys : List A) (x y : A) → xs ++ x ∷ [] ≡ ys ++ y ∷ []
    → (xs ≡ ys) × (x ≡ y)
last_same xs ys x y is =
    let n : length xs ≡ length ys =
    omega (arith, ap length is, length-append xs (x ∷ []), length-append ys (y ∷ [])) in (
      sym (take_front xs x) ∙ ap (take (length xs)) is ∙ ap (λ k. take k (ys ++ y ∷ [])) n
          ∙ take_front ys y,
      ap (λ l. get_or l 0 x) (sym (drop_at xs (x ∷ []) (length xs) refl)
          ∙ ap (drop (length xs)) is ∙ ap (λ k. drop k (ys ++ y ∷ [])) n
          ∙ drop_at ys (y ∷ []) (length ys) refl),
    )

-- the value of the last member was set, whether it fits or not
pub member_added : (s : Storage) (f : Frame) (on : Bool) (ps qs : List Place) (ws : List ℕ)
    (before : List Member) (m n : Member) (a b : ℕ) (front : Entries) (key : List ℕ)
    (cs : List Content) (t : Tree)
    → AreOpen s f ps ws (before ++ m ∷ []) a (at_key front key ∷ cs) → a ≤ b
    → n.key ≡ m.key → n.prefix ≡ m.prefix
    → (m.part.start ≡ a → m.part.first ≡ length ps → f.place + 1 ≤ length ps
    → IsPartIfFit s (f.place + 1) (ps ++ qs) n.part n.word t)
    → ((ts : List Tree) → HasValuesIfFit f.fits s f.start (drop (f.place + 1) ps) a ts
    → HasValuesIfFit on s f.start (drop (f.place + 1) ps ++ qs) b (ts ++ t ∷ []))
    → AreOpen s (record f { fits = on }) (ps ++ qs) ws (before ++ n ∷ []) b
    (members (insert_entry (slice_cmp nat_cmp) front key t) ∷ cs)
member_added s f on ps qs ws before m n a b front key cs t (h, (g, (at, around))) further same_key
    same_prefix part values =
    let inside = place_inside f.place ps (drop (f.place + 1) ps) (place.Open g) at in
    let (fronts, last) = last_same h.before before h.last m (sym h.all) in
    let from : f.members ≤ length before = omega (arith, h.members_from, ap length fronts) in
    let start : m.part.start ≡ a = ap (λ x. x.part.start) (sym last) ∙ h.start in
    let first : m.part.first ≡ length ps = ap (λ x. x.part.first) (sym last) ∙ h.first in
    let m_key = subst (λ x. KeyIs s x.key x.prefix key) last h.has_key in
    let n_key = subst (λ k. KeyIs s k n.prefix key) (sym same_key)
    (subst (λ k. KeyIs s m.key k key) (sym same_prefix) m_key) in
    let old = members_grow s s (f.place + 1) ps qs (drop f.members before) h.read (nothing_grows s)
    (subst (λ xs. MembersAre s (f.place + 1) ps (drop f.members xs) h.read) fronts h.members) in (
      record {
        kind_is = h.kind_is;
        start_from = omega (arith, h.start_from, further);
        words_from = h.words_from;
        members_from = omega (arith, from, length-append before (n ∷ []));
        read = h.read ++ (key, t) ∷ [];
        members = subst (λ xs. MembersAre s (f.place + 1) (ps ++ qs) xs (h.read ++ (key, t) ∷ []))
            (sym (drop-append-le f.members before (n ∷ []) from))
            (members_snoc s (f.place + 1) (ps ++ qs) (drop f.members before) h.read n (key, t) old
            n_key (part start first inside));
        is = ap (λ es. insert_entry (slice_cmp nat_cmp) es key t) h.is
            ∙ sym (inserts_last [] h.read key t);
        ascend = λ up. h.ascend up t;
        values = subst (λ xs. HasValuesIfFit on s f.start xs b (values_of (h.read ++ (key, t)
            ∷ [])))
            (sym (drop-append-le (f.place + 1) ps qs inside))
            (subst (HasValuesIfFit on s f.start (drop (f.place + 1) ps ++ qs) b)
            (sym (values_snoc h.read (key, t))) (values (values_of h.read) h.values));
      },
      (
        g,
        (
          around_more f g ps qs at,
          subst (λ xs. AreOpen s g xs (take f.words ws) (take f.members (before ++ n ∷ [])) f.start
              cs) (sym (take-append-le f.place ps qs (omega (arith, inside))))
              (subst (λ xs. AreOpen s g (take f.place ps) (take f.words ws) xs f.start cs)
              (take-append-le f.members before (m ∷ []) from
              ∙ sym (take-append-le f.members before (n ∷ []) from)) around),
        ),
      ),
    )
