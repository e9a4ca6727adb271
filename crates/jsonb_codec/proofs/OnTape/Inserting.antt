-- The number of a member is put in its place among those in the order of their keys.
use Rattle.std.proofs.Common.{◌≡◌, ◌<◌, ◌≤◌, ℕ, refl, sym, ap, subst, ◌∙◌, List, [], ◌∷◌, ◌++◌}
use Rattle.std.proofs.Common.{◌+◌, length, get_or, slice_set, arith}
use Rattle.std.proofs.lemmas.List.{append_assoc, append-nil, length-append}
use Rattle.std.proofs.lemmas.Map.Lookups.{exact_bytes}
use Rattle.std.specs.List.{insert}
use Rattle.std.specs.Ordering.{nat_cmp, match_ordering}
use Rattle.std.specs.declared.cmp.Ordering.{Ordering}
use Rattle.std.specs.declared.cmp.Ordering.TheVariants.{Less, Equal, Greater}
use Rattle.std.specs.Cmp.Lexicographic.{slice_cmp}
use Rattle.std.specs.BTreeMap.{insert_entry}
use Rattle.jsonb_value.specs.Json.Syntax.{Entries}
use Rattle.jsonb_value.specs.Tree.{Tree}
use Rattle.byteorder.specs.Endian.{big_number}
use Rattle.jsonb_codec.specs.Keys.{IsPicked, Picks, key_bytes}
use Rattle.jsonb_codec.specs.Tape.{MembersAre}
use Rattle.jsonb_codec.specs.declared.tape.member.Member.{Member}
use Rattle.jsonb_codec.specs.declared.tape.place.Place.{Place}
use Rattle.jsonb_codec.specs.declared.tape.storage.Storage.{Storage}
use Rattle.jsonb_codec.proofs.OnTape.Closing.{as_many, at_same, no_member}
use Rattle.jsonb_codec.proofs.OnTape.Ordering.{member_read}

-- the members before the index have lower keys
pub record Passed (read : Entries) (ms : List ℕ) (es : Entries) (key : List ℕ) (index : ℕ)
    : Type 0 where
  pub before : List ℕ
  pub after : List ℕ
  pub lower : Entries
  pub others : Entries
  pub members_are : ms ≡ before ++ after
  pub here : index ≡ length before
  pub held_before : Picks read before lower
  pub held_after : Picks read after others
  pub inserts : (t : Tree) → insert_entry (slice_cmp nat_cmp) es key t
      ≡ lower ++ insert_entry (slice_cmp nat_cmp) others key t

pub passed_none : (read : Entries) (ms : List ℕ) (es : Entries) (key : List ℕ)
    → Picks read ms es → Passed read ms es key 0
passed_none read ms es key h = record {
  before = [];
  after = ms;
  lower = [];
  others = es;
  members_are = refl;
  here = refl;
  held_before = tt;
  held_after = h;
  inserts = λ t. refl;
}

picks_append : (read : Entries) (ms ns : List ℕ) (es fs : Entries) → Picks read ms es
    → Picks read ns fs → Picks read (ms ++ ns) (es ++ fs)
picks_append read [] ns [] fs h held = held
picks_append read (m ∷ ms) ns (e ∷ es) fs h held = (h.0, picks_append read ms ns es fs h.1 held)
picks_append read [] ns (e ∷ es) fs h held = absurd h
picks_append read (m ∷ ms) ns [] fs h held = absurd h

at : (ms ns : List ℕ) (d : ℕ) → get_or (ms ++ ns) (length ms) d ≡ get_or ns 0 d
at [] ns d = refl
at (m ∷ ms) ns d = at ms ns d

inserted_at : (ms ns : List ℕ) (x : ℕ) → insert (ms ++ ns) (length ms) x ≡ ms ++ x ∷ ns
inserted_at [] ns x = refl
inserted_at (m ∷ ms) ns x = ap (λ xs. m ∷ xs) (inserted_at ms ns x)

set_at : (ms ns : List ℕ) (m x : ℕ)
    → slice_set (ms ++ m ∷ ns) (length ms) x ≡ ms ++ x ∷ ns
set_at [] ns m x = refl
set_at (n ∷ ms) ns m x = ap (λ xs. n ∷ xs) (set_at ms ns m x)

-- what is at the index of members that are passed
record Next (read : Entries) (m : ℕ) (after : List ℕ) (others : Entries) : Type 0 where
  pub rest : List ℕ
  pub first : List ℕ × Tree
  pub later : Entries
  pub after_is : after ≡ m ∷ rest
  pub others_are : others ≡ first ∷ later
  pub is : IsPicked read m first
  pub held : Picks read rest later

next : (read : Entries) (ms : List ℕ) (es : Entries) (key : List ℕ) (index : ℕ) (m : ℕ)
    (p : Passed read ms es key index) → index < length ms → m ≡ get_or ms index m
    → Next read m p.after p.others
next read ms es key index m p low there =
    by p.after p.others p.held_after
    (omega (arith, low, p.here, ap length p.members_are, length-append p.before p.after))
    (there ∙ ap (λ xs. get_or xs index m) p.members_are
    ∙ ap (λ i. get_or (p.before ++ p.after) i m) p.here ∙ at p.before p.after m)
  where
    by : (after : List ℕ) (others : Entries) → Picks read after others → 0 < length after
        → m ≡ get_or after 0 m → Next read m after others
    by (n ∷ rest) (e ∷ later) held some first = record {
      rest = rest;
      first = e;
      later = later;
      after_is = ap (λ x. x ∷ rest) (sym first);
      others_are = refl;
      is = subst (λ x. IsPicked read x e) (sym first) held.0;
      held = held.1;
    }
    by [] others held some first = absurd (omega (arith, some))
    by (n ∷ rest) [] held some first = absurd held

pub goes_on : (read : Entries) (ms : List ℕ) (es : Entries) (key : List ℕ) (index : ℕ)
    (m : ℕ) → Passed read ms es key index → index < length ms
    → m ≡ get_or ms index m
    → ((e : List ℕ × Tree) → IsPicked read m e → slice_cmp nat_cmp key e.0 ≡ Greater)
    → Passed read ms es key (index + 1)
goes_on read ms es key index m p low there greater =
    let n = next read ms es key index m p low there in record {
      before = p.before ++ m ∷ [];
      after = n.rest;
      lower = p.lower ++ n.first ∷ [];
      others = n.later;
      members_are = p.members_are ∙ ap (λ xs. p.before ++ xs) n.after_is
          ∙ sym (append_assoc p.before (m ∷ []) n.rest);
      here = ap (λ i. i + 1) p.here ∙ sym (length-append p.before (m ∷ []));
      held_before = picks_append read p.before (m ∷ []) p.lower (n.first ∷ []) p.held_before
          (n.is, tt);
      held_after = n.held;
      inserts = λ t. p.inserts t
          ∙ ap (λ xs. p.lower ++ insert_entry (slice_cmp nat_cmp) xs key t) n.others_are
          ∙ ap (λ o. p.lower ++ match_ordering o ((key, t) ∷ n.first ∷ n.later)
          ((n.first.0, t) ∷ n.later)
          (n.first ∷ insert_entry (slice_cmp nat_cmp) n.later key t))
          (greater n.first n.is)
          ∙ sym (append_assoc p.lower (n.first ∷ [])
          (insert_entry (slice_cmp nat_cmp) n.later key t));
    }

pub goes_before : (read : Entries) (ms new : List ℕ) (es : Entries) (key : List ℕ) (index : ℕ)
    (m x : ℕ) (t : Tree) → Passed read ms es key index → index < length ms
    → m ≡ get_or ms index m
    → ((e : List ℕ × Tree) → IsPicked read m e → slice_cmp nat_cmp key e.0 ≡ Less)
    → new ≡ insert ms index x
    → IsPicked read x (key, t) → Picks read new (insert_entry (slice_cmp nat_cmp) es key t)
goes_before read ms new es key index m x t p low there less made is =
    let n = next read ms es key index m p low there in
    let items : new ≡ p.before ++ x ∷ m ∷ n.rest =
    made ∙ ap (λ xs. insert xs index x) p.members_are
    ∙ ap (λ i. insert (p.before ++ p.after) i x) p.here
    ∙ inserted_at p.before p.after x ∙ ap (λ xs. p.before ++ x ∷ xs) n.after_is in
    let entries : insert_entry (slice_cmp nat_cmp) es key t
    ≡ p.lower ++ (key, t) ∷ n.first ∷ n.later =
    p.inserts t ∙ ap (λ xs. p.lower ++ insert_entry (slice_cmp nat_cmp) xs key t) n.others_are
    ∙ ap (λ o. p.lower ++ match_ordering o ((key, t) ∷ n.first ∷ n.later)
    ((n.first.0, t) ∷ n.later) (n.first ∷ insert_entry (slice_cmp nat_cmp) n.later key t))
    (less n.first n.is) in
    subst (Picks read new) (sym entries)
    (subst (λ xs. Picks read xs (p.lower ++ (key, t) ∷ n.first ∷ n.later)) (sym items)
    (picks_append read p.before (x ∷ m ∷ n.rest) p.lower ((key, t) ∷ n.first ∷ n.later)
    p.held_before (is, (n.is, n.held))))

pub takes_place : (read : Entries) (ms new : List ℕ) (es : Entries) (key : List ℕ) (index : ℕ)
    (m x : ℕ) (t : Tree) → Passed read ms es key index → index < length ms
    → m ≡ get_or ms index m
    → ((e : List ℕ × Tree) → IsPicked read m e → slice_cmp nat_cmp key e.0 ≡ Equal)
    → new ≡ slice_set ms index x
    → IsPicked read x (key, t) → Picks read new (insert_entry (slice_cmp nat_cmp) es key t)
takes_place read ms new es key index m x t p low there equal made is =
    let n = next read ms es key index m p low there in
    let same : key ≡ n.first.0 =
    exact_bytes key n.first.0 (equal n.first n.is) in
    let items : new ≡ p.before ++ x ∷ n.rest =
    made ∙ ap (λ xs. slice_set xs index x) p.members_are
    ∙ ap (λ i. slice_set (p.before ++ p.after) i x) p.here
    ∙ ap (λ xs. slice_set (p.before ++ xs) (length p.before) x) n.after_is
    ∙ set_at p.before n.rest m x in
    let entries : insert_entry (slice_cmp nat_cmp) es key t
    ≡ p.lower ++ (n.first.0, t) ∷ n.later =
    p.inserts t ∙ ap (λ xs. p.lower ++ insert_entry (slice_cmp nat_cmp) xs key t) n.others_are
    ∙ ap (λ o. p.lower ++ match_ordering o ((key, t) ∷ n.first ∷ n.later)
    ((n.first.0, t) ∷ n.later) (n.first ∷ insert_entry (slice_cmp nat_cmp) n.later key t))
    (equal n.first n.is) in
    subst (Picks read new) (sym entries)
    (subst (λ xs. Picks read xs (p.lower ++ (n.first.0, t) ∷ n.later)) (sym items)
    (picks_append read p.before (x ∷ n.rest) p.lower ((n.first.0, t) ∷ n.later)
    p.held_before (subst (λ k. IsPicked read x (k, t)) same is, n.held)))

pub goes_last : (read : Entries) (ms new : List ℕ) (es : Entries) (key : List ℕ) (index : ℕ)
    (x : ℕ) (t : Tree) → Passed read ms es key index → length ms ≤ index
    → new ≡ ms ++ x ∷ [] → IsPicked read x (key, t)
    → Picks read new (insert_entry (slice_cmp nat_cmp) es key t)
goes_last read ms new es key index x t p past made is =
    by p.after p.others p.held_after p.members_are (p.inserts t)
  where
    by : (after : List ℕ) (others : Entries) → Picks read after others
        → ms ≡ p.before ++ after → insert_entry (slice_cmp nat_cmp) es key t
        ≡ p.lower ++ insert_entry (slice_cmp nat_cmp) others key t
        → Picks read new (insert_entry (slice_cmp nat_cmp) es key t)
    by [] [] held are inserts =
        subst (Picks read new) (sym inserts)
        (subst (λ xs. Picks read xs (p.lower ++ (key, t) ∷ []))
        (sym (made ∙ ap (λ xs. xs ++ x ∷ []) (are ∙ append-nil p.before)))
        (picks_append read p.before (x ∷ []) p.lower ((key, t) ∷ []) p.held_before (is, tt)))
    by [] (e ∷ others) held are inserts = absurd held
    by (n ∷ after) others held are inserts =
        let long = ap length are ∙ length-append p.before (n ∷ after) in
        absurd (omega (arith, past, p.here, long))

-- how two keys compare, by what was found of their members
pub compared : (s : Storage) (base : ℕ) (ps : List Place) (members : List Member) (read : Entries)
    (i j : ℕ) (k e : List ℕ × Tree) (spelled : List ℕ) (r o : Ordering)
    → MembersAre s base ps members read → IsPicked read i k → IsPicked read j e
    → spelled ≡ s.spelled.items
    → ((get_or members i no_member).prefix
    ≡ big_number 8 (key_bytes spelled (get_or members i no_member).key)
    → (get_or members j no_member).prefix
    ≡ big_number 8 (key_bytes spelled (get_or members j no_member).key)
    → r ≡ slice_cmp nat_cmp (key_bytes spelled (get_or members i no_member).key)
    (key_bytes spelled (get_or members j no_member).key))
    → r ≡ o → slice_cmp nat_cmp k.0 e.0 ≡ o
compared s base ps members read i j k e spelled r o h left right same cmp is =
    let m = get_or members i no_member in
    let n = get_or members j no_member in
    let many = as_many s base ps members read h in
    let a = (member_read s base ps members read i m k h left.0
    (at_same members i no_member (omega (arith, many, left.0))) left.1).0 in
    let b = (member_read s base ps members read j n e h right.0
    (at_same members j no_member (omega (arith, many, right.0))) right.1).0 in
    let left_key : key_bytes spelled m.key ≡ k.0 = ap (λ xs. key_bytes xs m.key) same ∙ a.same in
    let right_key : key_bytes spelled n.key ≡ e.0 = ap (λ xs. key_bytes xs n.key) same ∙ b.same in
    sym (ap (λ x. slice_cmp nat_cmp x e.0) left_key)
    ∙ sym (ap (slice_cmp nat_cmp (key_bytes spelled m.key)) right_key)
    ∙ sym (cmp (a.number ∙ ap (big_number 8) (sym left_key))
    (b.number ∙ ap (big_number 8) (sym right_key))) ∙ is
