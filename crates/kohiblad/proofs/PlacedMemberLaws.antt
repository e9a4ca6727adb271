-- Names are found in one walk over the members of an object.
use Rattle.std.proofs.Common.{◌≡◌, ◌⊎◌, ℕ, zero, suc, ◌+◌, ◌-◌, ◌*◌, ◌≤◌, List, [], ◌∷◌, map}
use Rattle.std.proofs.Common.{Option, None, Some, Ok, Err, Result, refl, sym, ap, ap₂, subst, ◌∙◌}
use Rattle.std.proofs.Common.{inl, inr, arith, drop, length, length-drop, drop-drop}
use Rattle.std.specs.Prelude.{Bool, IfSome, MatchOption, true, false, nat_eq, if◌then◌else◌}
use Rattle.std.specs.Cmp.Lexicographic.{pointwise, slice_cmp, texts_ties}
use Rattle.std.specs.Map.{keys_of, values_of}
use Rattle.std.specs.declared.cmp.Ordering.{Ordering}
use Rattle.std.specs.declared.cmp.Ordering.TheVariants.{Less, Equal, Greater}
use Rattle.std.specs.Ordering.{is_eq, nat_cmp}
use Rattle.std.proofs.lemmas.List.{drop_all, length-map}
use Rattle.jsonb_value.specs.declared.error.Error.{Error}
use Rattle.jsonb_value.specs.Tree.{Ascends, Tree, Pairs, no_pairs, object, pair, pair_count}
use Rattle.jsonb_codec.specs.Doc.{Doc, Payload}
use Rattle.jsonb_codec.specs.JEntry.{jentry_at}
use Rattle.jsonb_codec.specs.WordBytes.{header_at}
use Rattle.jsonb.specs.Building.{key_codes}
use Rattle.jsonb.specs.Entry.{Code, entry_there}
use Rattle.jsonb.specs.Entries.{Run, key_run, left_after, others_left, placed_from, run_from}
use Rattle.jsonb.specs.Entries.{value_run}
use Rattle.jsonb.specs.Parts.{length_in}
use Rattle.jsonb.specs.Steps.{◌>>=◌}
use Rattle.jsonb.specs.StoredEntries.{AreMemberEntriesOf}
use Rattle.jsonb.specs.declared.entries.Entry.{Entry}
use Rattle.jsonb.proofs.KindLaws.{container_cases, header_at-Scalar, header_at-array}
use Rattle.jsonb.proofs.KindLaws.{header_at-object}
use Rattle.jsonb.proofs.StoredEntryLaws.{object_holds}
use Rattle.jsonb_functions.specs.PathPlaces.{first_entry, named_entry, read_entries, run_entries}
use Rattle.jsonb_functions.proofs.KeyOrder.{Below, below_trans, flipped, is_eq_false, key_equal}
use Rattle.jsonb_functions.proofs.KeyOrder.{not_itself}
use Rattle.jsonb_functions.proofs.PathPlaceLaws.{are_read, read_all}
use Rattle.kohiblad.specs.PlacedMembers.{AreAllRead, AreWhole, ArePassed, KeysAscend, keys_from}
use Rattle.kohiblad.specs.PlacedMembers.{first_named, keys_left, name_place, name_under}
use Rattle.kohiblad.specs.PlacedMembers.{place_after, place_among, values_left}
use Rattle.kohiblad.specs.declared.placed_members.PlacedMembers.{PlacedMembers}

other_key : (a b : List ℕ) → (slice_cmp nat_cmp a b ≡ Equal → ⊥) → pointwise nat_eq a b ≡ false
other_key a b h = texts_ties a b ∙ is_eq_false (slice_cmp nat_cmp a b) h

is_equal : (o : Ordering) → is_eq o ≡ true → o ≡ Equal
is_equal Less is = absurd cc
is_equal Equal is = refl
is_equal Greater is = absurd cc

pub names_equal : (a b : List ℕ) (same : Bool) → same ≡ pointwise nat_eq a b → same ≡ true
    → slice_cmp nat_cmp a b ≡ Equal
names_equal a b same is passes =
    is_equal (slice_cmp nat_cmp a b) (sym (texts_ties a b) ∙ sym is ∙ passes)

-- The first value that is left after so many members, if its key is the name.
pub named_after : (b name : List ℕ) (count : ℕ) (left after : PlacedMembers) (key : Entry)
    (same : Bool) (payload : List ℕ) → ArePassed b count left after → after.first ≡ Some key
    → same ≡ pointwise nat_eq payload name → payload ≡ (entry_there b key).payload
    → same ≡ true → place_after name b count left ≡ first_entry (values_left after)
named_after b name count left after key same payload passed first is read passes =
    let values = values_left after in
    let equal : pointwise nat_eq (entry_there b key).payload name ≡ true =
    ap (λ (k : List ℕ). pointwise nat_eq k name) (sym read) ∙ sym is ∙ passes in
    ap₂ (λ (ks vs : List Entry). first_named name b ks vs) (sym passed.keys) (sym passed.values)
    ∙ ap
    (λ (f : Option Entry). first_named name b (keys_from f (read_entries after.keys.entries))
    values) first
    ∙ ap (λ (t : Bool). if t then first_entry values else None) equal

-- Where no value is left nothing is found.
pub no_values : (name b : List ℕ) (keys : List Entry) → named_entry name b keys [] ≡ None
no_values name b [] = refl
no_values name b (key ∷ keys) = refl

-- Entries that can all be read.
pub read_from : (entries : List (Result Entry Error)) (places : List Entry)
    → entries ≡ map Ok places → (read_entries entries ≡ places) × AreAllRead entries
read_from entries places are =
    let read = ap read_entries are ∙ read_all places in
    (read, are ∙ ap (λ (xs : List Entry). map Ok xs) (sym read))

left_read : (n : ℕ) (places : List Entry)
    → left_after n (map Ok places) ≡ Ok (map Ok (drop n places))
left_read zero places = refl
left_read (suc n) [] = refl
left_read (suc n) (place ∷ places) = left_read n places

others_read : (places : List Entry) → others_left (map Ok places) ≡ map Ok (drop 1 places)
others_read [] = refl
others_read (place ∷ places) = refl

-- What is left of them, after some are passed and one is taken.
pub left_of_read : (n : ℕ) (entries left : List (Result Entry Error)) → AreAllRead entries
    → left_after n entries ≡ Ok left → left ≡ map Ok (drop n (read_entries entries))
left_of_read n entries left are is =
    let both : ◌≡◌ {A = Result (List (Result Entry Error)) Error} (Ok left)
    (Ok (map Ok (drop n (read_entries entries)))) =
    sym is ∙ ap (left_after n) are ∙ left_read n (read_entries entries) in
    cc

pub never_cut : (n : ℕ) (entries : List (Result Entry Error)) (e : Error) → AreAllRead entries
    → left_after n entries ≡ Err e → ⊥
never_cut n entries e are is =
    let both : ◌≡◌ {A = Result (List (Result Entry Error)) Error} (Err e)
    (Ok (map Ok (drop n (read_entries entries)))) =
    sym is ∙ ap (left_after n) are ∙ left_read n (read_entries entries) in
    absurd cc

pub next_of_read : (next : Option Entry) (places read_after : List Entry)
    → MatchOption next ((places ≡ []) × (read_after ≡ [])) (λ entry. places ≡ entry ∷ read_after)
    → next ≡ first_entry places
next_of_read None places read_after is = ap first_entry (sym is.0)
next_of_read (Some entry) places read_after is = ap first_entry (sym is)

pub after_read : (passed : ℕ) (before left after : List (Result Entry Error)) (next : Option Entry)
    → AreAllRead before → left_after passed before ≡ Ok left → after ≡ others_left left
    → MatchOption next ((read_entries left ≡ []) × (read_entries after ≡ []))
    (λ entry. read_entries left ≡ entry ∷ read_entries after)
    → (next ≡ first_entry (drop passed (read_entries before)))
    × (after ≡ map Ok (drop (passed + 1) (read_entries before)))
after_read passed before left after next are skipped others steps =
    let all = read_entries before in
    let rest = left_of_read passed before left are skipped in
    let read = read_from left (drop passed all) rest in (
      next_of_read next (read_entries left) (read_entries after) steps ∙ ap first_entry read.0,
      others ∙ ap others_left rest ∙ others_read (drop passed all)
          ∙ ap (λ (xs : List Entry). map Ok xs) (drop-drop 1 passed all),
    )

-- The first member is passed, as its key is below the name, and so below all that are not.
module _ (b name : List ℕ) (key : Entry) (ks : List Entry) where
  abbrev first_key : List ℕ
  first_key = (entry_there b key).payload

  other_test : (k : List ℕ) (vs : List Entry) → (slice_cmp nat_cmp k first_key ≡ Equal → ⊥)
      → named_entry k b (key ∷ ks) vs ≡ named_entry k b ks (drop 1 vs)
  other_test k [] other = sym (no_values k b ks)
  other_test k (value ∷ vs) other = rw (other_key k first_key other) refl

  pub passed_first : (k : List ℕ) (vs : List Entry) → Below first_key name → (Below k name → ⊥)
      → named_entry k b (key ∷ ks) vs ≡ named_entry k b ks (drop 1 vs)
  passed_first k vs low late =
      other_test k vs
      (λ same. late (subst (λ (x : List ℕ). Below x name) (sym (key_equal k first_key same)) low))

  pub met_first : (vs : List Entry) → slice_cmp nat_cmp first_key name ≡ Equal
      → named_entry name b (key ∷ ks) vs ≡ first_entry vs
  met_first [] same = refl
  met_first (value ∷ vs) same =
      let tests : pointwise nat_eq name first_key ≡ true =
      texts_ties name first_key ∙ ap is_eq (flipped first_key name Equal same) in
      rw tests refl

  pub above_first : (vs : List Entry) → slice_cmp nat_cmp first_key name ≡ Greater
      → KeysAscend b None (key ∷ ks) → named_entry name b (key ∷ ks) vs ≡ None
  above_first vs above ascend =
      let below : Below name first_key = flipped first_key name Greater above in
      other_test name vs
      (λ same. let both : ◌≡◌ {A = Ordering} Less Equal = sym below ∙ same in absurd cc)
      ∙ absent first_key ks (drop 1 vs) below ascend.1
    where
      absent : (before : List ℕ) (keys values : List Entry) → Below name before
          → KeysAscend b (Some before) keys → named_entry name b keys values ≡ None
      absent before [] values below ascend = refl
      absent before (next ∷ keys) [] below ascend = refl
      absent before (next ∷ keys) (found ∷ values) below ascend =
          let k = (entry_there b next).payload in
          let lower = below_trans name before k below ascend.0 in
          let test : pointwise nat_eq name k ≡ false = other_key name k
          (λ same. let both : ◌≡◌ {A = Ordering} Less Equal = sym lower ∙ same in absurd cc) in
          rw test (absent k keys values lower ascend.1)

-- The keys before one in an object are below it.
below_later : (b before : List ℕ) (key : Entry) (later : List Entry) (n : ℕ) (ks : List Entry)
    → KeysAscend b (Some before) ks → drop n ks ≡ key ∷ later
    → Below before (entry_there b key).payload
below_later b before key later n [] ascend is =
    let none : ◌≡◌ {A = List Entry} [] (key ∷ later) = sym (drop_none n) ∙ is in absurd cc
  where
    drop_none : (n : ℕ) → ◌≡◌ {A = List Entry} (drop n []) []
    drop_none zero = refl
    drop_none (suc n) = refl
below_later b before key later zero (k ∷ ks) ascend is =
    let same : k ≡ key = cc in
    subst (λ (x : Entry). Below before (entry_there b x).payload) same ascend.0
below_later b before key later (suc n) (k ∷ ks) ascend is =
    below_trans before (entry_there b k).payload (entry_there b key).payload ascend.0
    (below_later b (entry_there b k).payload key later n ks ascend.1 is)

drop_one : (n : ℕ) (values : List Entry) → drop n (drop 1 values) ≡ drop (suc n) values
drop_one zero [] = refl
drop_one (suc n) [] = refl
drop_one n (value ∷ values) = refl

later_ascend : (b : List ℕ) (key : Entry) (keys : List Entry)
    → KeysAscend b None (key ∷ keys) → KeysAscend b None keys
later_ascend b key [] ascend = tt
later_ascend b key (next ∷ keys) ascend = (tt, ascend.1.1)

-- So the members before that of a name are passed.
pub passed_to : (b name : List ℕ) (key : Entry) (later : List Entry) (n : ℕ) (ks vs : List Entry)
    → KeysAscend b None ks → drop n ks ≡ key ∷ later → name ≡ (entry_there b key).payload
    → (k : List ℕ) → (Below k name → ⊥)
    → named_entry k b ks vs ≡ named_entry k b (drop n ks) (drop n vs)
passed_to b name key later zero ks vs ascend is same k late = refl
passed_to b name key later (suc n) [] vs ascend is same k late = refl
passed_to b name key later (suc n) (first ∷ ks) vs ascend is same k late =
    let low : Below (entry_there b first).payload name =
    subst (Below (entry_there b first).payload) (sym same)
    (below_later b (entry_there b first).payload key later n ks ascend.1 is) in
    passed_first b name first ks k vs low late
    ∙ passed_to b name key later n ks (drop 1 vs) (later_ascend b first ks ascend) is same k late
    ∙ ap (named_entry k b (drop n ks)) (drop_one n vs)

dropped_ascend : (b : List ℕ) (n : ℕ) (keys : List Entry) → KeysAscend b None keys
    → KeysAscend b None (drop n keys)
dropped_ascend b zero keys ascend = ascend
dropped_ascend b (suc n) [] ascend = tt
dropped_ascend b (suc n) (key ∷ keys) ascend =
    dropped_ascend b n keys (later_ascend b key keys ascend)

-- Passing members: each key passed leaves its value behind.
length_read : (entries : List (Result Entry Error)) → AreAllRead entries
    → length (read_entries entries) ≡ length entries
length_read entries are =
    sym (length-map (read_entries entries) Ok) ∙ ap length (sym are)

left_behind : (count : ℕ) (values : List Entry) (size keys after : ℕ) → length values ≡ size
    → keys ≤ size → after ≡ keys - count
    → drop (size - after) values ≡ drop count (drop (size - keys) values)
left_behind count values size keys after long valued is =
    by (arith_cases count keys)
  where
    arith_cases : (c k : ℕ) → (c ≤ k) ⊎ (k ≤ c)
    arith_cases zero k = inl (omega arith)
    arith_cases (suc c) zero = inr (omega arith)
    arith_cases (suc c) (suc k) = more (arith_cases c k) where
      more : (c ≤ k) ⊎ (k ≤ c) → (suc c ≤ suc k) ⊎ (suc k ≤ suc c)
      more (inl le) = inl (omega (arith, le))
      more (inr le) = inr (omega (arith, le))

    by : (count ≤ keys) ⊎ (keys ≤ count)
        → drop (size - after) values ≡ drop count (drop (size - keys) values)
    by (inl few) =
        ap (λ (n : ℕ). drop n values) {x = size - after} {y = (size - keys) + count}
        (omega (arith, valued, is, few))
        ∙ sym (drop-drop count (size - keys) values)
    by (inr many) =
        drop_all (size - after) values (omega (arith, long, is, many))
        ∙ sym (drop_all count (drop (size - keys) values)
        (omega (arith, long, valued, many, length-drop (size - keys) values)))

-- The first entry of a list, and those after it.
cut_first : (entries : List Entry) → keys_from (first_entry entries) (drop 1 entries) ≡ entries
cut_first [] = refl
cut_first (entry ∷ entries) = refl

none_after : (entries : List Entry) → first_entry entries ≡ None
    → ◌≡◌ {A = List Entry} (drop 1 entries) []
none_after [] none = refl
none_after (entry ∷ entries) none = absurd cc

pass_keys : (first : Option Entry) (keys : List Entry) (n : ℕ) → (first ≡ None → keys ≡ [])
    → keys_from (first_entry (drop n keys)) (drop (n + 1) keys) ≡ drop (suc n) (keys_from first keys)
pass_keys None keys n ended =
    ap (λ (xs : List Entry). keys_from (first_entry (drop n xs)) (drop (n + 1) xs)) (ended refl)
    ∙ ap₂ (λ (o : Option Entry) (xs : List Entry). keys_from o xs)
    (ap first_entry (drop_all n [] (omega arith))) refl
pass_keys (Some first) keys n ended =
    ap (keys_from (first_entry (drop n keys))) (sym (drop-drop 1 n keys)) ∙ cut_first (drop n keys)

-- So many members are passed, and no value is read.
pub pass_law : (b : List ℕ) (n count : ℕ) (before after : PlacedMembers) → AreWhole b before
    → count ≡ suc n → after.first ≡ first_entry (drop n (read_entries before.keys.entries))
    → after.keys.entries ≡ map Ok (drop (n + 1) (read_entries before.keys.entries))
    → after.values.entries ≡ before.values.entries → ArePassed b count before after
pass_law b n count before after whole counted first_is keys_are values_are =
    let left = read_entries before.keys.entries in
    let read = read_from after.keys.entries (drop (n + 1) left) keys_are in
    let keys : keys_left after ≡ drop count (keys_left before) =
    ap₂ (λ (o : Option Entry) (xs : List Entry). keys_from o xs) first_is read.0
    ∙ pass_keys before.first left n (λ none. ap read_entries (whole.ended none))
    ∙ ap (λ (m : ℕ). drop m (keys_left before)) (sym counted) in
    let fewer : length (keys_left after) ≡ length (keys_left before) - count =
    ap length keys ∙ length-drop count (keys_left before) in
    let valued : length (keys_left before) ≤ length before.values.entries = whole.valued in
    let same : length after.values.entries ≡ length before.values.entries =
    ap length values_are in
    record {
      whole = record {
        keys_read = read.1;
        values_read = subst AreAllRead (sym values_are) whole.values_read;
        ascend = subst (KeysAscend b None) (sym keys)
            (dropped_ascend b count (keys_left before) whole.ascend);
        valued = omega (arith, fewer, valued, same);
        ended = λ none.
            keys_are
            ∙ ap (λ (xs : List Entry). map Ok xs)
            (sym (drop-drop 1 n left) ∙ none_after (drop n left) (sym first_is ∙ none));
      };
      keys = keys;
      values =
          ap
          (λ (es : List (Result Entry Error)).
          drop (length es - length (keys_left after)) (read_entries es)) values_are
          ∙ left_behind count (read_entries before.values.entries)
          (length before.values.entries) (length (keys_left before)) (length (keys_left after))
          (length_read before.values.entries whole.values_read) valued fewer;
    }

pub none_passed : (b : List ℕ) (before : PlacedMembers) → AreWhole b before
    → ArePassed b 0 before before
none_passed b before whole = record { whole = whole; keys = refl; values = refl }

-- The value of the first member is read, and it is passed.
pub take_law : (b : List ℕ) (key : Entry) (before mid after : PlacedMembers) (behind : ℕ)
    → before.first ≡ Some key → AreWhole b before → ArePassed b 1 before mid
    → mid.values.entries ≡ before.values.entries
    → behind ≡ (length before.values.entries - length before.keys.entries) - 1
    → after.first ≡ mid.first → after.keys.entries ≡ mid.keys.entries
    → after.values.entries ≡ map Ok (drop (behind + 1) (read_entries mid.values.entries))
    → (drop behind (read_entries mid.values.entries) ≡ values_left before)
    × ArePassed b 1 before after
take_law b key before mid after behind first_is whole passed same_values behind_is same_first
    same_keys values_are =
    let values = read_entries before.values.entries in
    let long : length (read_entries before.keys.entries) ≡ length before.keys.entries =
    length_read before.keys.entries whole.keys_read in
    let keys_are : keys_left before ≡ key ∷ read_entries before.keys.entries =
    ap (λ (o : Option Entry). keys_from o (read_entries before.keys.entries)) first_is in
    let longer : length (keys_left before) ≡ length before.keys.entries + 1 =
    ap length keys_are ∙ omega (arith, long) in
    let read_mid : read_entries mid.values.entries ≡ values = ap read_entries same_values in
    let lag : behind ≡ length before.values.entries - length (keys_left before) =
    omega (arith, behind_is, longer) in
    let first_values : drop behind (read_entries mid.values.entries) ≡ values_left before =
    ap (drop behind) read_mid ∙ ap (λ (n : ℕ). drop n values) lag in
    let read = read_from after.values.entries (drop (behind + 1) (read_entries mid.values.entries))
    values_are in
    let keys : keys_left after ≡ keys_left mid =
    ap₂ (λ (o : Option Entry) (es : List (Result Entry Error)). keys_from o (read_entries es))
    same_first same_keys in
    let fewer : length (keys_left after) ≡ length (keys_left before) - 1 =
    ap length (keys ∙ passed.keys) ∙ length-drop 1 (keys_left before) in
    let size : length after.values.entries ≡ length before.values.entries - (behind + 1) =
    sym (length_read after.values.entries read.1) ∙ ap length read.0
    ∙ length-drop (behind + 1) (read_entries mid.values.entries)
    ∙ ap (λ (n : ℕ). n - (behind + 1))
    (ap length read_mid ∙ length_read before.values.entries whole.values_read) in
    let valued : length (keys_left before) ≤ length before.values.entries = whole.valued in
    let even : length after.values.entries ≡ length (keys_left after) =
    omega (arith, size, fewer, lag, valued, longer) in (
      first_values,
      record {
        whole = record {
          keys_read = subst AreAllRead (sym same_keys) passed.whole.keys_read;
          values_read = read.1;
          ascend = subst (KeysAscend b None) (sym keys) passed.whole.ascend;
          valued = omega (arith, even);
          ended = λ none. same_keys ∙ passed.whole.ended (sym same_first ∙ none);
        };
        keys = keys ∙ passed.keys;
        values =
            ap (λ (n : ℕ). drop n (read_entries after.values.entries))
            {x = length after.values.entries - length (keys_left after)} {y = 0}
            (omega (arith, even))
            ∙ read.0
            ∙ sym (drop-drop 1 behind (read_entries mid.values.entries))
            ∙ ap (drop 1) first_values;
      },
    )

-- The next member is passed where its key alone is read.
pub next_passed : (b : List ℕ) (before after : PlacedMembers) → AreWhole b before
    → after.keys.entries ≡ others_left before.keys.entries
    → MatchOption after.first
    ((read_entries before.keys.entries ≡ []) × (read_entries after.keys.entries ≡ []))
    (λ entry. read_entries before.keys.entries ≡ entry ∷ read_entries after.keys.entries)
    → after.values.entries ≡ before.values.entries → ArePassed b 1 before after
next_passed b before after whole rest steps same =
    let entries = before.keys.entries in
    let read = after_read 0 entries entries after.keys.entries after.first whole.keys_read refl rest
    steps in
    pass_law b 0 1 before after whole refl read.0 read.1 same

pub if_found : (place found : Option Entry) → found ≡ place
    → IfSome found (λ entry. place ≡ Some entry)
if_found place None is = tt
if_found place (Some entry) is = sym is

pub if_some : (found : Option Entry) (P : Type 0) → P → IfSome found (λ entry. P)
if_some None P is = tt
if_some (Some entry) P is = is

-- What is found at the first member, and after it.
module _ (b name : List ℕ) (key : Entry) (before : PlacedMembers)
    (first_is : before.first ≡ Some key) where
  abbrev key_there : List ℕ
  key_there = (entry_there b key).payload

  keys_are : keys_left before ≡ key ∷ read_entries before.keys.entries
  keys_are = ap (λ (o : Option Entry). keys_from o (read_entries before.keys.entries)) first_is

  pub one_passed : (after : PlacedMembers) → ArePassed b 1 before after → Below key_there name
      → (k : List ℕ) → (Below k name → ⊥) → place_among k b before ≡ place_among k b after
  one_passed after passed low k late =
      let ks = read_entries before.keys.entries in
      ap (λ (xs : List Entry). named_entry k b xs (values_left before)) keys_are
      ∙ passed_first b name key ks k (values_left before) low late
      ∙ sym
      (ap₂ (λ (xs ys : List Entry). named_entry k b xs ys)
      (passed.keys ∙ ap (drop 1) keys_are) passed.values)

  pub met_law : (value : Option Entry) → slice_cmp nat_cmp key_there name ≡ Equal
      → value ≡ first_entry (values_left before) → value ≡ place_among name b before
  met_law value same is =
      is
      ∙ sym
      (ap (λ (xs : List Entry). named_entry name b xs (values_left before)) keys_are
      ∙ met_first b name key (read_entries before.keys.entries) (values_left before) same)

  pub above_law : slice_cmp nat_cmp key_there name ≡ Greater → AreWhole b before
      → place_among name b before ≡ None
  above_law above whole =
      ap (λ (xs : List Entry). named_entry name b xs (values_left before)) keys_are
      ∙ above_first b name key (read_entries before.keys.entries) (values_left before) above
      (subst (KeysAscend b None) keys_are whole.ascend)

  pub later_law : (after : PlacedMembers) → ArePassed b 1 before after
      → slice_cmp nat_cmp key_there name ≡ Equal → (k : List ℕ) → Below name k
      → place_among k b before ≡ place_among k b after
  later_law after passed same k above =
      let low : Below key_there k =
      subst (λ (x : List ℕ). Below x k) (sym (key_equal key_there name same)) above in
      again k after passed low (not_itself k)
    where
      again : (k : List ℕ) (after : PlacedMembers) → ArePassed b 1 before after
          → Below key_there k → (Below k k → ⊥)
          → place_among k b before ≡ place_among k b after
      again k after passed low late =
          ap (λ (xs : List Entry). named_entry k b xs (values_left before)) keys_are
          ∙ passed_first b k key (read_entries before.keys.entries) k (values_left before) low late
          ∙ sym
          (ap₂ (λ (xs ys : List Entry). named_entry k b xs ys)
          (passed.keys ∙ ap (drop 1) keys_are) passed.values)

pub none_first : (b name : List ℕ) (before : PlacedMembers) → before.first ≡ None
    → place_among name b before ≡ None
none_first b name before none =
    ap (λ (o : Option Entry).
    named_entry name b (keys_from o (read_entries before.keys.entries))
    (drop (length before.values.entries
    - length (keys_from o (read_entries before.keys.entries)))
    (read_entries before.values.entries))) none

-- A name whose member is the next one has the place that it had before others were passed.
pub guess_law : (b name : List ℕ) (key : Entry) (n : ℕ) (before mid : PlacedMembers)
    → AreWhole b before → ArePassed b n before mid → mid.first ≡ Some key
    → name ≡ (entry_there b key).payload → (k : List ℕ) → (Below k name → ⊥)
    → place_among k b before ≡ place_among k b mid
guess_law b name key n before mid whole passed first_is same k late =
    let cut : drop n (keys_left before) ≡ key ∷ read_entries mid.keys.entries =
    sym passed.keys
    ∙ ap (λ (o : Option Entry). keys_from o (read_entries mid.keys.entries)) first_is in
    passed_to b name key (read_entries mid.keys.entries) n (keys_left before) (values_left before)
    whole.ascend cut same k late
    ∙ sym
    (ap₂ (λ (xs ys : List Entry). named_entry k b xs ys) passed.keys passed.values)

-- The keys of a document's object ascend.
ascend_from : (b : List ℕ) (before : Option (List ℕ)) (keys : List Entry)
    (ms : List (List ℕ × Code)) (ps : Pairs) → map (entry_there b) keys ≡ key_codes (keys_of ms)
    → AreMemberEntriesOf (keys_of ms) (values_of ms) ps → Ascends before ps
    → KeysAscend b before keys
ascend_from b before [] ms ps there mean ascend = tt
ascend_from b before (key ∷ keys) [] ps there mean ascend = absurd cc
ascend_from b before (key ∷ keys) (m ∷ ms) no_pairs there mean ascend = absurd mean
ascend_from b before (key ∷ keys) (m ∷ ms) (pair l t ps) there mean ascend =
    let first : entry_there b key ≡ record { type = 268435456; payload = m.0 } = cc in
    let rest : map (entry_there b) keys ≡ key_codes (keys_of ms) = cc in
    let is : (entry_there b key).payload ≡ l = ap (λ (e : Code). e.payload) first ∙ mean.0 in
    subst
    (λ (k : List ℕ). IfSome before (λ p. slice_cmp nat_cmp p k ≡ Less) × KeysAscend b (Some k) keys)
    (sym is) (ascend.0, ascend_from b (Some l) keys ms ps rest mean.1.1 ascend.1)

-- The entries of a document's object can all be read.
pub record AreRunsRead (b : List ℕ) (n : ℕ) : Type 0 where
  pub keys_read : AreAllRead (key_run b n).entries
  pub ascend : KeysAscend b None (read_entries (key_run b n).entries)
  pub end : ℕ
  pub values_are : value_run b n ≡ Ok (run_from b n (4 + 4 * n) end)
  pub values_read : AreAllRead (placed_from b n (4 + 4 * n) end)

object_runs : (b : List ℕ) (ps : Pairs) → Payload (object ps) b → AreRunsRead b (pair_count ps)
object_runs b ps h =
    let holds = object_holds b ps h in
    let n = pair_count ps in
    let keys = are_read b (key_run b n).entries (key_codes (keys_of holds.members)) holds.keys in
    let values = are_read b (placed_from b n (4 + 4 * n) holds.end) (values_of holds.members)
    holds.values in
    let read = read_from (key_run b n).entries keys.places keys.all in
    record {
      keys_read = read.1;
      ascend =
          subst (KeysAscend b None) (sym read.0)
          (ascend_from b None keys.places holds.members ps keys.there holds.stored.mean h.0);
      end = holds.end;
      values_are = ap (λ (r : Result ℕ Error). r >>= λ (start : ℕ).
          Ok (run_from b n (4 + 4 * n) start)) holds.ends;
      values_read = (read_from (placed_from b n (4 + 4 * n) holds.end) values.places values.all).1;
    }

same_header : (n m k l : ℕ) → ◌≡◌ {A = Result (ℕ × ℕ) Error} (Ok (n, m)) (Ok (k, l))
    → (n ≡ k) × (m ≡ l)
same_header n m k l same =
    let pair : ◌≡◌ {A = ℕ × ℕ} (n, m) (k, l) = cc in
    (ap (λ (p : ℕ × ℕ). p.0) pair, ap (λ (p : ℕ × ℕ). p.1) pair)

pub document_runs : (b : List ℕ) (t : Tree) (count : ℕ) → Doc b t
    → header_at b 0 ≡ Ok (1073741824, count) → AreRunsRead b count
document_runs b t count (inr (is, h)) header =
    container_cases (λ (u : Tree). Payload u b → AreRunsRead b count) t is
    (λ ts h.
    let both = same_header _ _ _ _ (sym (header_at-array b ts h) ∙ header) in
    absurd (omega (arith, both.0)))
    (λ ps h.
    let both = same_header _ _ _ _ (sym (header_at-object b ps h) ∙ header) in
    subst (AreRunsRead b) both.1 (object_runs b ps h)) h
document_runs b t count (inl (other, h)) header =
    let both = same_header _ _ _ _ (sym (header_at-Scalar b t h) ∙ header) in
    absurd (omega (arith, both.0))

length_placed : (b : List ℕ) (n word start : ℕ) → length (placed_from b n word start) ≡ n
length_placed b zero word start = refl
length_placed b (suc n) word start =
    let rest = length_placed b n (word + 4) (start + length_in (jentry_at b word)) in
    omega (arith, rest)

-- A walk begins with all members of the object.
pub start_law : (b : List ℕ) (n : ℕ) (runs : AreRunsRead b n) (left : PlacedMembers)
    → left.first ≡ first_entry (read_entries (key_run b n).entries)
    → left.keys.entries ≡ others_left (key_run b n).entries
    → left.values.entries ≡ placed_from b n (4 + 4 * n) runs.end
    → AreWhole b left × ((keys_left left ≡ read_entries (key_run b n).entries)
    × (values_left left ≡ run_entries (value_run b n)))
start_law b n runs left first_is keys_are values_are =
    let all = read_entries (key_run b n).entries in
    let rest : left.keys.entries ≡ map Ok (drop 1 all) =
    keys_are ∙ ap others_left runs.keys_read ∙ others_read all in
    let read = read_from left.keys.entries (drop 1 all) rest in
    let keys : keys_left left ≡ all =
    ap₂ (λ (o : Option Entry) (xs : List Entry). keys_from o xs) first_is read.0
    ∙ cut_first all in
    let many : length (keys_left left) ≡ n =
    ap length keys ∙ length_read (key_run b n).entries runs.keys_read
    ∙ length_placed b n 4 (4 + 8 * n) in
    let size : length left.values.entries ≡ n =
    ap length values_are ∙ length_placed b n (4 + 4 * n) runs.end in (
      record {
        keys_read = read.1;
        values_read = subst AreAllRead (sym values_are) runs.values_read;
        ascend = subst (KeysAscend b None) (sym keys) runs.ascend;
        valued = omega (arith, many, size);
        ended = λ none.
            rest
            ∙ ap (λ (xs : List Entry). map Ok xs) (none_after all (sym first_is ∙ none));
      },
      (
        keys,
        ap (λ (k : ℕ). drop k (read_entries left.values.entries))
            {x = length left.values.entries - length (keys_left left)} {y = 0}
            (omega (arith, many, size))
            ∙ ap read_entries values_are
            ∙ sym (ap run_entries runs.values_are),
      ),
    )

-- So each name has its place.
pub start_found : (b name : List ℕ) (n : ℕ) (left : PlacedMembers)
    → header_at b 0 ≡ Ok (1073741824, n) → keys_left left ≡ read_entries (key_run b n).entries
    → values_left left ≡ run_entries (value_run b n)
    → place_among name b left ≡ name_place name b
start_found b name n left header keys values =
    ap₂ (λ (xs ys : List Entry). named_entry name b xs ys) keys values
    ∙ sym (ap (name_under name b) header)

pub one_run : (a b : Run) → ◌≡◌ {A = Result Run Error} (Ok a) (Ok b) → a ≡ b
one_run a b same = cc

pub never_refused : (r : Result Run Error) (run : Run) (e : Error) → r ≡ Ok run → r ≡ Err e → ⊥
never_refused r run e ok err =
    let both : ◌≡◌ {A = Result Run Error} (Ok run) (Err e) = sym ok ∙ err in absurd cc
