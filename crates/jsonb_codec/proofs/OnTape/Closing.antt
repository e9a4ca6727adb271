-- Closing a container on the tape of a text.
use Rattle.std.proofs.Common.{◌≡◌, ℕ, zero, suc, ◌+◌, ◌*◌, ◌/◌, ◌<◌, ◌≤◌, ◌^◌, refl, sym, ap, subst}
use Rattle.std.proofs.Common.{◌∙◌, List, [], ◌∷◌, ◌++◌, length, arith, length-append, take, drop}
use Rattle.std.proofs.Common.{Bool, true, false, not, true≢false, Option, Some, None, get_or, set}
use Rattle.std.specs.Option.{is_some}
use Rattle.jsonb_codec.specs.declared.tape.key.Key.TheVariants as keys
use Rattle.std.proofs.lemmas.List.{append_assoc, append-nil, drop_at, set_split}
use Rattle.jsonb_value.specs.Tree.{Tree, array, object, Ascend}
use Rattle.jsonb_value.specs.Value.{trees_of}
use Rattle.jsonb_value.specs.WellFormed.{IsTree, AreTrees, ArePairs}
use Rattle.jsonb_value.specs.Json.Syntax.{Entries, pairs}
use Rattle.jsonb_codec.specs.declared.constants.TheConstants.{ARRAY_CONTAINER_TAG, CONTAINER_TAG}
use Rattle.jsonb_codec.specs.declared.constants.TheConstants.{OBJECT_CONTAINER_TAG, STRING_TAG}
use Rattle.jsonb_codec.specs.WordBytes.{word}
use Rattle.jsonb_codec.specs.Shape.{AllFit, FitsEntry, FitsInside, entries, payloads, shape_count}
use Rattle.jsonb_codec.specs.Shape.{body, key_entries, key_payloads, shape_type}
use Rattle.jsonb_codec.specs.Canon.{shape_of, pairs_shapes, payload_of}
use Rattle.jsonb_codec.specs.Keys.{key_bytes}
use Rattle.jsonb_codec.specs.Tape.{cut, Joined, head_place, IsMade, KeyIs, IsPartIfFit}
use Rattle.jsonb_codec.specs.Tape.{MembersAre, values_of, shapes_of, StoresHead, IsHead, IsEnded}
use Rattle.jsonb_codec.specs.Tape.{Grows}
use Rattle.jsonb_value.specs.Reader.Resume.{Content, put}
use Rattle.jsonb_codec.specs.Tape.{AreOpen, IsAround, IsEndedIfFit, tape_is}
use Rattle.jsonb_codec.specs.declared.tape.Tape.{Tape}
use Rattle.jsonb_codec.specs.declared.tape.entry.Entry.{Entry}
use Rattle.jsonb_codec.specs.declared.tape.member.Member.{Member}
use Rattle.jsonb_codec.specs.declared.tape.place.Frame.{Frame}
use Rattle.jsonb_codec.specs.declared.tape.place.Head.{Head}
use Rattle.jsonb_codec.specs.declared.tape.place.Place.{Place}
use Rattle.jsonb_codec.specs.declared.tape.place.Place.TheVariants as place
use Rattle.jsonb_codec.specs.declared.tape.storage.Storage.{Storage}
use Rattle.jsonb_codec.proofs.Shapes.{length-array, length-entries, length-object}
use Rattle.jsonb_codec.proofs.Words.{length-word}
use Rattle.jsonb_codec.proofs.OnTape.Joined.{cut_none, cut_rest}
use Rattle.jsonb_codec.proofs.OnTape.Open.{place_inside}

-- ---- what was stored

pub head_grows : (old new : Storage) (head : List ℕ) → StoresHead old new head → Grows old new
head_grows old new head h = record {
  more_payload = [];
  more_heads = head;
  more_spelled = [];
  more_moved = [];
  payload = ap (λ v. v.items) h.payload ∙ sym (append-nil old.payload.items);
  heads = h.heads;
  spelled = ap (λ v. v.items) h.spelled ∙ sym (append-nil old.spelled.items);
  moved = ap (λ v. v.items) h.moved ∙ sym (append-nil old.moved.items);
}

pub stores_further : (old mid new : Storage) (p q : List ℕ) → StoresHead old mid p
    → StoresHead mid new q → StoresHead old new (p ++ q)
stores_further old mid new p q g h = record {
  heads = h.heads ∙ ap (λ x. x ++ q) g.heads ∙ append_assoc old.heads.items p q;
  payload = h.payload ∙ g.payload;
  spelled = h.spelled ∙ g.spelled;
  moved = h.moved ∙ g.moved;
}

-- ---- the place of a container that is closed

pub closed_made : (s : Storage) (at start until : ℕ) (ps : List Place) (size : ℕ) (t : Tree)
    (e : Entry) (h : Head) → IsEnded s start until ps size t → h.at ≡ at → h.until ≡ until
    → h.start ≡ start → h.end ≡ length s.heads.items → at ≤ length s.payload.items
    → e.type_code ≡ CONTAINER_TAG → e.size ≡ size
    → IsMade s (Some e) at (place.Head h ∷ ps) (length s.payload.items) t
closed_made s at start until ps size t e h is place_at goes_on begins ends low tag sized =
    let heads = s.heads.items in
    let none : cut at h.at s.payload.items ≡ [] =
    ap (λ k. cut at k s.payload.items) place_at ∙ cut_none at s.payload.items in
    let head : cut h.start h.end heads ≡ drop start heads =
    ap (λ k. cut k h.end heads) begins ∙ ap (λ k. cut start k heads) ends
    ∙ cut_rest start heads in (
      record {
        tree = is.tree;
        fits = is.fits;
        type = tag ∙ sym is.type_is;
        size = sized ∙ is.size_is;
      },
      (
        tt,
        head_place at (length s.payload.items) h ps is.children (payload_of t)
            (omega (arith, place_at)) (omega (arith, place_at, low))
            (omega (arith, begins, ends, is.long)) (omega (arith, ends))
            (subst (λ k. Joined s k ps (length s.payload.items) is.children)
            (sym goes_on) is.joined)
            (is.same ∙ sym (ap (λ x. x ++ (cut h.start h.end heads ++ is.children)) none
            ∙ ap (λ x. x ++ is.children) head)),
      ),
    )

-- a container whose head was stored, with the payloads of its children
pub head_ended : (old new later : Storage) (size start until : ℕ) (p : List ℕ) (ps : List Place)
    (t : Tree) → IsHead old new size p t → start ≡ length old.heads.items
    → later.heads ≡ new.heads → shape_type (shape_of t) ≡ CONTAINER_TAG
    → Joined later until ps (length later.payload.items) p → IsEnded later start until ps size t
head_ended old new later size start until p ps t h begins heads tag joined =
    let all : later.heads.items ≡ old.heads.items ++ h.head =
    ap (λ v. v.items) heads ∙ h.stored.heads in
    let head : drop start later.heads.items ≡ h.head =
    ap (drop start) all ∙ drop_at old.heads.items h.head start (sym begins) in
    record {
      children = p;
      type_is = tag;
      tree = h.tree;
      fits = h.fits;
      size_is = h.size_is;
      long = omega (arith, begins, h.long, ap length all, length-append old.heads.items h.head);
      same = h.same ∙ ap (λ x. x ++ p) (sym head);
      joined = joined;
    }

-- ---- arrays

pub array_head : (old new : Storage) (words : List ℕ) (ts : List Tree) (n : ℕ)
    → AreTrees (trees_of ts) → AllFit (shapes_of ts) → words ≡ entries (shapes_of ts)
    → length words / 4 < 2 ^ 29 → n ≡ 4 + length words + length (payloads (shapes_of ts))
    → StoresHead old new (word (ARRAY_CONTAINER_TAG + length words / 4) ++ words)
    → IsHead old new n (payloads (shapes_of ts)) (array (trees_of ts))
array_head old new words ts n trees fit is few sized stored =
    let ss = shapes_of ts in
    let counted : length words / 4 ≡ shape_count ss =
    omega (arith, ap length is, length-entries ss) in
    record {
      head = word (ARRAY_CONTAINER_TAG + length words / 4) ++ words;
      stored = stored;
      long = omega (
        arith,
        length-append (word (ARRAY_CONTAINER_TAG + length words / 4)) words,
        length-word (ARRAY_CONTAINER_TAG + length words / 4),
      );
      same = sym (ap (λ k. (word (ARRAY_CONTAINER_TAG + k) ++ words) ++ payloads ss) counted
          ∙ ap (λ x. (word (ARRAY_CONTAINER_TAG + shape_count ss) ++ x) ++ payloads ss) is
          ∙ append_assoc (word (ARRAY_CONTAINER_TAG + shape_count ss)) (entries ss) (payloads ss));
      tree = trees;
      fits = (omega (arith, few, counted), fit);
      size_is = omega (arith, sized, ap length is, length-entries ss, length-array ss);
    }

pub array_long : (words : List ℕ) (ts : List Tree) → words ≡ entries (shapes_of ts)
    → 2 ^ 29 ≤ length words / 4 → FitsInside (shape_of (array (trees_of ts))) → ⊥
array_long words ts is long fits =
    omega (arith, fits.0, long, ap length is, length-entries (shapes_of ts))

-- ---- objects

pub same_payloads : (es : Entries)
    → payloads (pairs_shapes (pairs es)) ≡ payloads (shapes_of (values_of es))
same_payloads [] = refl
same_payloads (e ∷ es) = ap (λ x. payload_of e.1 ++ x) (same_payloads es)

pub values_fit : (es : Entries) → AllFit (pairs_shapes (pairs es))
    → AllFit (shapes_of (values_of es))
values_fit [] h = tt
values_fit (e ∷ es) h = ((omega arith, h.0.1), values_fit es h.1)

pub count_pairs : (es : Entries) → shape_count (pairs_shapes (pairs es)) ≡ length es
count_pairs [] = refl
count_pairs (e ∷ es) = ap suc (count_pairs es)

pub as_many : (s : Storage) (base : ℕ) (ps : List Place) (ms : List Member) (es : Entries)
    → MembersAre s base ps ms es → length ms ≡ length es
as_many s base ps [] [] h = refl
as_many s base ps (m ∷ ms) (e ∷ es) h = ap suc (as_many s base ps ms es h.1)
as_many s base ps [] (e ∷ es) h = absurd h
as_many s base ps (m ∷ ms) [] h = absurd h

-- members that fit are trees with keys of UTF-8
pub members_pairs : (s : Storage) (base : ℕ) (ps : List Place) (ms : List Member) (es : Entries)
    → MembersAre s base ps ms es → AllFit (pairs_shapes (pairs es)) → ArePairs (pairs es)
members_pairs s base ps [] [] h fit = tt
members_pairs s base ps (m ∷ ms) (e ∷ es) h fit =
    (h.0.0.utf8, (by m.word h.0.1, members_pairs s base ps ms es h.1 fit.1))
  where
    by : (w : Option ℕ) → IsPartIfFit s base ps m.part w e.1 → IsTree e.1
    by (Some w) part = part.tree
    by None never = absurd (never (record { inside = fit.0.1.0; short = fit.0.1.1 }))
members_pairs s base ps [] (e ∷ es) h fit = absurd h
members_pairs s base ps (m ∷ ms) [] h fit = absurd h

pub object_head : (old begun keyed valued new : Storage) (base : ℕ) (ps : List Place)
    (ms : List Member) (es : Entries) (size n : ℕ) → MembersAre old base ps ms es
    → Ascend (pairs es) → length ms < 2 ^ 29
    → StoresHead old begun (word (OBJECT_CONTAINER_TAG + length ms))
    → StoresHead begun keyed (key_entries (pairs_shapes (pairs es)))
    → AllFit (pairs_shapes (pairs es)) → n ≡ body (pairs_shapes (pairs es))
    → StoresHead keyed valued (entries (pairs_shapes (pairs es)))
    → StoresHead valued new (key_payloads (pairs_shapes (pairs es)))
    → size ≡ 4 + 8 * length ms + n
    → IsHead old new size (payloads (shapes_of (values_of es))) (object (pairs es))
object_head old begun keyed valued new base ps ms es size n are ascend few first second fit is third
    fourth sized =
    let ss = pairs_shapes (pairs es) in
    let count : length ms ≡ shape_count ss =
    as_many old base ps ms es are ∙ sym (count_pairs es) in
    let tag = word (OBJECT_CONTAINER_TAG + length ms) in
    let head = ((tag ++ key_entries ss) ++ entries ss) ++ key_payloads ss in
    record {
      head = head;
      stored = stores_further old valued new ((tag ++ key_entries ss) ++ entries ss)
          (key_payloads ss)
          (stores_further old keyed valued (tag ++ key_entries ss) (entries ss)
          (stores_further old begun keyed tag (key_entries ss) first second) third) fourth;
      long = omega (
        arith,
        length-append ((tag ++ key_entries ss) ++ entries ss) (key_payloads ss),
        length-append (tag ++ key_entries ss) (entries ss),
        length-append tag (key_entries ss),
        length-word (OBJECT_CONTAINER_TAG + length ms),
      );
      same = sym (ap (λ x. head ++ x) (sym (same_payloads es))
          ∙ ap (λ k. (((word (OBJECT_CONTAINER_TAG + k) ++ key_entries ss) ++ entries ss)
          ++ key_payloads ss) ++ payloads ss) count
          ∙ assoc (word (OBJECT_CONTAINER_TAG + shape_count ss)) (key_entries ss) (entries ss)
          (key_payloads ss) (payloads ss));
      tree = (ascend, members_pairs old base ps ms es are fit);
      fits = (omega (arith, few, count), fit);
      size_is = omega (arith, sized, is, count, length-object ss);
    }
  where
    assoc : (a b c d e : List ℕ) → (((a ++ b) ++ c) ++ d) ++ e ≡ a ++ (b ++ (c ++ (d ++ e)))
    assoc a b c d e = append_assoc ((a ++ b) ++ c) d e ∙ append_assoc (a ++ b) c (d ++ e)
        ∙ append_assoc a b (c ++ (d ++ e))

pub too_many : (s : Storage) (base : ℕ) (ps : List Place) (ms : List Member) (es : Entries)
    → MembersAre s base ps ms es → 2 ^ 29 ≤ length ms
    → FitsInside (shape_of (object (pairs es))) → ⊥
too_many s base ps ms es h many fits =
    omega (arith, many, fits.0, as_many s base ps ms es h, count_pairs es)

-- ---- the members one by one

-- the member at an index, and its entry
pub record MemberAt (s : Storage) (base : ℕ) (ps : List Place) (m : Member) (es : Entries) (i : ℕ)
    : Type 0 where
  pub e : List ℕ × Tree
  pub next : take (i + 1) es ≡ take i es ++ e ∷ []
  pub low : i < length es
  pub there : get_or es i e ≡ e
  pub key : KeyIs s m.key m.prefix e.0
  pub part : IsPartIfFit s base ps m.part m.word e.1
  pub fit : AllFit (pairs_shapes (pairs es)) → (length e.0 < 2 ^ 28) × FitsEntry (shape_of e.1)

-- a member where there is none
abbrev pub no_member : Member
no_member = record {
  key = keys.Text (record { ref_ptr = (0, 0); now = [] });
  prefix = 0;
  word = None;
  part = record { start = 0; end = 0; first = 0; last = 0; size = 0 };
}

pub at_same : {A : Type 0} (xs : List A) (i : ℕ) (d : A) → i < length xs
    → get_or xs i d ≡ get_or xs i (get_or xs i d)
at_same [] i d low = absurd (omega (arith, low))
at_same (x ∷ xs) zero d low = refl
at_same (x ∷ xs) (suc i) d low = at_same xs i d (omega (arith, low))

pub has_word : (word : Option ℕ) (none : Bool) → is_some word ≡ not none → none ≡ false
    → (w : ℕ) × (word ≡ Some w)
has_word (Some w) none is some = (w, refl)
has_word None none is some = absurd (true≢false (sym (is ∙ ap not some)))

pub has_no_word : (word : Option ℕ) (none : Bool) → is_some word ≡ not none → none ≡ true
    → word ≡ None
has_no_word None none is off = refl
has_no_word (Some w) none is off = absurd (true≢false (is ∙ ap not off))

pub is_on : (b : Bool) → not b ≡ false → b ≡ true
is_on true off = refl
is_on false off = absurd (true≢false off)

pub member_at : (s : Storage) (base : ℕ) (ps : List Place) (ms : List Member) (es : Entries)
    (i : ℕ) (m : Member) → MembersAre s base ps ms es → i < length ms → m ≡ get_or ms i m
    → MemberAt s base ps m es i
member_at s base ps [] es i m h low is = absurd (omega (arith, low))
member_at s base ps (n ∷ ms) [] i m h low is = absurd h
member_at s base ps (n ∷ ms) (e ∷ es) zero m h low is = record {
  e = e;
  next = refl;
  low = omega arith;
  there = refl;
  key = subst (λ x. KeyIs s x.key x.prefix e.0) (sym is) h.0.0;
  part = subst (λ x. IsPartIfFit s base ps x.part x.word e.1) (sym is) h.0.1;
  fit = λ all. (all.0.0, record { inside = all.0.1.0; short = all.0.1.1 });
}
member_at s base ps (n ∷ ms) (e ∷ es) (suc i) m h low is =
    let rest = member_at s base ps ms es i m h.1 (omega (arith, low)) is in
    let same : suc i + 1 ≡ suc (i + 1) = omega arith in
    record {
      e = rest.e;
      next = ap (λ k. take k (e ∷ es)) same ∙ ap (λ xs. e ∷ xs) rest.next;
      low = omega (arith, rest.low);
      there = rest.there;
      key = rest.key;
      part = rest.part;
      fit = λ all. rest.fit all.1;
    }

pub key_words_snoc : (es : Entries) (e : List ℕ × Tree)
    → key_entries (pairs_shapes (pairs (es ++ e ∷ [])))
    ≡ key_entries (pairs_shapes (pairs es)) ++ word (STRING_TAG + length e.0)
key_words_snoc [] e = append-nil (word (STRING_TAG + length e.0))
key_words_snoc (f ∷ es) e =
    ap (λ x. word (STRING_TAG + length f.0) ++ x) (key_words_snoc es e)
    ∙ sym (append_assoc (word (STRING_TAG + length f.0)) (key_entries (pairs_shapes (pairs es)))
    (word (STRING_TAG + length e.0)))

pub value_words_snoc : (es : Entries) (e : List ℕ × Tree)
    → entries (pairs_shapes (pairs (es ++ e ∷ [])))
    ≡ entries (pairs_shapes (pairs es))
    ++ word (shape_type (shape_of e.1) + length (payload_of e.1))
value_words_snoc [] e = append-nil (word (shape_type (shape_of e.1) + length (payload_of e.1)))
value_words_snoc (f ∷ es) e =
    ap (λ x. word (shape_type (shape_of f.1) + length (payload_of f.1)) ++ x)
    (value_words_snoc es e)
    ∙ sym (append_assoc (word (shape_type (shape_of f.1) + length (payload_of f.1)))
    (entries (pairs_shapes (pairs es)))
    (word (shape_type (shape_of e.1) + length (payload_of e.1))))

pub key_bytes_snoc : (es : Entries) (e : List ℕ × Tree)
    → key_payloads (pairs_shapes (pairs (es ++ e ∷ [])))
    ≡ key_payloads (pairs_shapes (pairs es)) ++ e.0
key_bytes_snoc [] e = append-nil e.0
key_bytes_snoc (f ∷ es) e =
    ap (λ x. f.0 ++ x) (key_bytes_snoc es e)
    ∙ sym (append_assoc f.0 (key_payloads (pairs_shapes (pairs es))) e.0)

pub pairs_fit_snoc : (es : Entries) (e : List ℕ × Tree) → AllFit (pairs_shapes (pairs es))
    → length e.0 < 2 ^ 28 → FitsEntry (shape_of e.1) → AllFit (pairs_shapes (pairs (es ++ e ∷ [])))
pairs_fit_snoc [] e h short fits = ((short, (fits.inside, fits.short)), tt)
pairs_fit_snoc (f ∷ es) e h short fits = (h.0, pairs_fit_snoc es e h.1 short fits)

pub body_snoc : (es : Entries) (e : List ℕ × Tree)
    → body (pairs_shapes (pairs (es ++ e ∷ [])))
    ≡ body (pairs_shapes (pairs es)) + (length e.0 + length (payload_of e.1))
body_snoc [] e = omega (
  arith,
  length-append e.0 [],
  length-append (payload_of e.1) [],
)
body_snoc (f ∷ es) e = omega (
  arith,
  body_snoc es e,
  length-append f.0 (key_payloads (pairs_shapes (pairs (es ++ e ∷ [])))),
  length-append f.0 (key_payloads (pairs_shapes (pairs es))),
  length-append (payload_of f.1) (payloads (pairs_shapes (pairs (es ++ e ∷ [])))),
  length-append (payload_of f.1) (payloads (pairs_shapes (pairs es))),
)

-- ---- the frame around

open_at : (n : ℕ) (ps rest : List Place) (g : Frame) (x : Place)
    → drop n ps ≡ place.Open g ∷ rest → x ≡ get_or ps n x → x ≡ place.Open g
open_at zero [] rest g x at is = absurd (omega (arith, ap length at))
open_at zero (p ∷ ps) rest g x at is = is ∙ ap (λ xs. get_or xs 0 x) at
open_at (suc n) [] rest g x at is = absurd (omega (arith, ap length at))
open_at (suc n) (p ∷ ps) rest g x at is = open_at n ps rest g x at is

abbrev frame_of : Frame → Place → Frame
frame_of d (place.Open f) = f
frame_of d _ = d

-- the place of a container keeps the frame around it
pub same_frame : (n : ℕ) (ps rest : List Place) (f g : Frame) (x : Place)
    → drop n ps ≡ place.Open g ∷ rest → x ≡ get_or ps n x → x ≡ place.Open f → g ≡ f
same_frame n ps rest f g x at is kept =
    ap (frame_of g) (sym (open_at n ps rest g x at is) ∙ kept)

pub head_put : (n : ℕ) (ps : List Place) (x : Place) → n < length ps
    → set ps n x ≡ take n ps ++ x ∷ drop (n + 1) ps
head_put n ps x low =
    let same : suc n ≡ n + 1 = omega arith in
    set_split ps n x low ∙ ap (λ k. take n ps ++ x ∷ drop k ps) same

-- ---- one member more of a head

pub nothing_stored : (s : Storage) → StoresHead s s []
nothing_stored s = record {
  heads = sym (append-nil s.heads.items);
  payload = refl;
  spelled = refl;
  moved = refl;
}

pub key_stored : (old mid new : Storage) (base : ℕ) (ps : List Place) (ms : List Member)
    (es : Entries) (i : ℕ) (m : Member) (bytes : List ℕ) → MembersAre old base ps ms es
    → i < length ms → m ≡ get_or ms i m
    → StoresHead old mid (key_payloads (pairs_shapes (pairs (take i es))))
    → StoresHead mid new bytes → bytes ≡ key_bytes mid.spelled.items m.key
    → StoresHead old new (key_payloads (pairs_shapes (pairs (take (i + 1) es))))
key_stored old mid new base ps ms es i m bytes h low is before stored same =
    let at = member_at old base ps ms es i m h low is in
    let key : bytes ≡ at.e.0 =
    same ∙ ap (λ v. key_bytes v.items m.key) before.spelled ∙ at.key.same in
    subst (λ xs. StoresHead old new (key_payloads (pairs_shapes (pairs xs)))) (sym at.next)
    (subst (StoresHead old new) (sym (key_bytes_snoc (take i es) at.e))
    (stores_further old mid new (key_payloads (pairs_shapes (pairs (take i es)))) at.e.0 before
    (subst (StoresHead mid new) key stored)))

pub value_word_stored : (old mid new : Storage) (base : ℕ) (ps : List Place) (ms : List Member)
    (es : Entries) (i w : ℕ) (m : Member) → MembersAre old base ps ms es
    → i < length ms → m ≡ get_or ms i m → m.word ≡ Some w
    → StoresHead old mid (entries (pairs_shapes (pairs (take i es))))
    → StoresHead mid new (word w)
    → StoresHead old new (entries (pairs_shapes (pairs (take (i + 1) es))))
value_word_stored old mid new base ps ms es i w m h low is some before stored =
    let at = member_at old base ps ms es i m h low is in
    let part = subst (λ x. IsPartIfFit old base ps m.part x at.e.1) some at.part in
    subst (λ xs. StoresHead old new (entries (pairs_shapes (pairs xs)))) (sym at.next)
    (subst (StoresHead old new) (sym (value_words_snoc (take i es) at.e))
    (stores_further old mid new (entries (pairs_shapes (pairs (take i es))))
    (word (shape_type (shape_of at.e.1) + length (payload_of at.e.1))) before
    (subst (λ k. StoresHead mid new (word k)) part.word_is stored)))

-- a member without an entry word, where all fit
pub no_word : (s : Storage) (base : ℕ) (ps : List Place) (ms : List Member) (es : Entries) (i : ℕ)
    (m : Member) → MembersAre s base ps ms es → i < length ms → m ≡ get_or ms i m
    → m.word ≡ None → AllFit (pairs_shapes (pairs es)) → ⊥
no_word s base ps ms es i m h low is none fit =
    let at = member_at s base ps ms es i m h low is in
    subst (λ x. IsPartIfFit s base ps m.part x at.e.1) none at.part (at.fit fit).1

pub part_short : (s : Storage) (base : ℕ) (ps : List Place) (ms : List Member) (es : Entries)
    (i w : ℕ) (m : Member) → MembersAre s base ps ms es → i < length ms → m ≡ get_or ms i m
    → m.word ≡ Some w → m.part.size < 2 ^ 28
part_short s base ps ms es i w m h low is some =
    let at = member_at s base ps ms es i m h low is in
    let part = subst (λ x. IsPartIfFit s base ps m.part x at.e.1) some at.part in
    omega (arith, part.size, part.fits.short)

-- a key beyond its limit
pub key_long : (s : Storage) (base : ℕ) (ps : List Place) (ms : List Member) (es : Entries) (i : ℕ)
    (m : Member) → MembersAre s base ps ms es → i < length ms → m ≡ get_or ms i m
    → 2 ^ 28 ≤ length (key_bytes s.spelled.items m.key) → AllFit (pairs_shapes (pairs es)) → ⊥
key_long s base ps ms es i m h low is long fit =
    let at = member_at s base ps ms es i m h low is in
    omega (arith, long, ap length at.key.same, (at.fit fit).0)

-- the members whose keys were stored
pub record KeyWordsAre (old new : Storage) (size : ℕ) (es : Entries) : Type 0 where
  pub stored : StoresHead old new (key_entries (pairs_shapes (pairs es)))
  pub fit : AllFit (pairs_shapes (pairs es))
  pub sized : size ≡ body (pairs_shapes (pairs es))

pub key_word_stored : (old mid new : Storage) (base : ℕ) (ps : List Place) (ms : List Member)
    (es : Entries) (i w size next length_of : ℕ) (m : Member) → MembersAre old base ps ms es
    → i < length ms → m ≡ get_or ms i m → m.word ≡ Some w
    → KeyWordsAre old mid size (take i es) → StoresHead mid new (word (STRING_TAG + length_of))
    → length_of ≡ length (key_bytes mid.spelled.items m.key) → length_of < 2 ^ 28
    → next ≡ size + (length_of + m.part.size) → KeyWordsAre old new next (take (i + 1) es)
key_word_stored old mid new base ps ms es i w size next length_of m h low is some before stored
    measured short sum =
    let at = member_at old base ps ms es i m h low is in
    let part = subst (λ x. IsPartIfFit old base ps m.part x at.e.1) some at.part in
    let same : length_of ≡ length at.e.0 =
    measured ∙ ap (λ v. length (key_bytes v.items m.key)) before.stored.spelled
    ∙ ap length at.key.same in
    subst (KeyWordsAre old new next) (sym at.next) (record {
      stored = subst (StoresHead old new) (sym (key_words_snoc (take i es) at.e))
          (stores_further old mid new (key_entries (pairs_shapes (pairs (take i es))))
          (word (STRING_TAG + length at.e.0)) before.stored
          (subst (λ k. StoresHead mid new (word (STRING_TAG + k))) same stored));
      fit = pairs_fit_snoc (take i es) at.e before.fit (omega (arith, short, same)) part.fits;
      sized = omega (arith, sum, before.sized, same, part.size, body_snoc (take i es) at.e);
    })

-- a container that fits is closed and added to that around it
pub close_adds : (old new : Tape) (outer : Frame) (places : List Place) (ws : List ℕ)
    (ms : List Member) (start until n : ℕ) (size : Option ℕ) (e : Entry) (h : Head) (x : Place)
    → x ≡ get_or old.places.items old.inner.place x → x ≡ place.Open outer
    → h.at ≡ old.inner.start → h.until ≡ until → h.start ≡ start
    → h.end ≡ length old.storage.heads.items → e.type_code ≡ CONTAINER_TAG → e.size ≡ n
    → places ≡ set old.places.items old.inner.place (place.Head h)
    → ws ≡ take old.inner.words old.words.items → ms ≡ take old.inner.members old.members.items
    → size ≡ Some n
    → ((ps qs : List Place) (a : ℕ) (cs : List Content) (t : Tree) → places ≡ ps ++ qs
    → AreOpen old.storage outer ps ws ms a cs → a ≤ length old.storage.payload.items
    → IsMade old.storage (Some e) a qs (length old.storage.payload.items) t
    → tape_is new (put t cs))
    → (g : Frame) (cs : List Content) (t : Tree) → IsAround old g cs
    → IsEndedIfFit old.storage start until (drop (old.inner.place + 1) old.places.items) size t
    → tape_is new (put t cs)
close_adds old new outer places ws ms start until n size e h x at kept place_at goes_on begins ends
    tag sized written words owned some ok g cs t around ended =
    let f = old.inner in
    let ps = take f.place old.places.items in
    let inside = drop (f.place + 1) old.places.items in
    let same = same_frame f.place old.places.items inside outer g x around.place_is at kept in
    let low = place_inside f.place old.places.items inside (place.Open g) around.place_is in
    ok ps (place.Head h ∷ inside) f.start cs t
    (written ∙ head_put f.place old.places.items (place.Head h) (omega (arith, low)))
    (subst (λ y. AreOpen old.storage y ps ws ms f.start cs) same
    (subst (λ xs. AreOpen old.storage g ps xs ms f.start cs) (sym words)
    (subst (λ xs. AreOpen old.storage g ps (take f.words old.words.items) xs f.start cs) (sym owned)
    around.around))) around.start_from
    (closed_made old.storage f.start start until inside n t e h
    (subst (λ y. IsEndedIfFit old.storage start until inside y t) some ended) place_at goes_on
    begins ends around.start_from tag sized)
