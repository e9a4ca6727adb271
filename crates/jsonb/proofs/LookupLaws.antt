-- The result of a look-up on a document.
use Rattle.std.proofs.Common.{◌≡◌, ℕ, zero, suc, ◌+◌, ◌*◌, ◌<◌, ◌≤◌, ◌^◌, Bool, true, false}
use Rattle.std.proofs.Common.{eqb, List, [], ◌∷◌, length, slice_get, Option, Some, None, option_map}
use Rattle.std.proofs.Common.{◌==◌, ◌&&◌, if◌then◌else◌, Result, Ok, Err, IfErr}
use Rattle.std.proofs.Common.{IsOk, IsOkAnd, refl, sym, ap, subst, ◌∙◌, arith}
use Rattle.std.proofs.Common.{length-append, eq-eqb, eqb-true}
use Rattle.std.specs.Map.{keys_of, values_of}
use Rattle.std.specs.Result.{result_ok}
use Rattle.std.proofs.lemmas.Bool.{eqb-false}
use Rattle.std.proofs.lemmas.Option.{slice_get-get_or, slice_get-map, slice_get_within}
use Rattle.std.proofs.lemmas.Map.Entries.{length-values_of}
use Rattle.jsonb_value.specs.declared.error.Error.{Error}
use Rattle.jsonb_value.specs.declared.error.Error.TheVariants.{InvalidJsonbNumber}
use Rattle.jsonb_value.specs.declared.error.Error.TheVariants.{InvalidJsonbExtension}
use Rattle.jsonb_value.specs.declared.number.Number.{Number}
use Rattle.jsonb_value.specs.Tree.{Tree, Extension, null, boolean, number, text, extension, array}
use Rattle.jsonb_value.specs.Tree.{object, Pairs, no_pairs, pair, pair_count}
use Rattle.jsonb_codec.specs.JEntry.{jentry_at}
use Rattle.jsonb_codec.specs.Doc.{Payload, Doc}
use Rattle.jsonb.specs.declared.entries.Entry.{Entry}
use Rattle.jsonb.specs.declared.item.JsonbItem.{JsonbItem}
use Rattle.jsonb.specs.ItemView.{ItemView, item_view}
use Rattle.jsonb.specs.Payloads.{has_known_tag}
use Rattle.jsonb.specs.Entry.{Code, entry_at, part_at}
use Rattle.jsonb.specs.Item.{item_of, item_of_number, item_of_extension}
use Rattle.jsonb.specs.Building.{key_codes}
use Rattle.jsonb.proofs.LeafLaws.{code_entries, code_payloads}
use Rattle.jsonb.specs.StoredEntries.{AreCodesOf, AreMemberEntriesOf, IsObjectOfEntries, find_entry}
use Rattle.jsonb.specs.StoredEntries.{IsEntryAt, IsFoundIn}
use Rattle.jsonb.specs.Walk.{count_under}
use Rattle.jsonb.specs.Parts.{length_in, part_length, length_before, part_start}
use Rattle.jsonb.specs.Parts.{key_of_size, value_entry, IsPassedAt, PassedBefore, IsAccepted}
use Rattle.jsonb.specs.Parts.{IsUnreadable, key_unread, value_unread, IsNoneFound, IsValueFound}
use Rattle.jsonb.specs.Lookup.{IsPassed, NoneAccepted, IsFirstAccepted, LooksUp}
use Rattle.jsonb.specs.Lookup.{LooksUpBytes, no_header, other_header, unread, all_passed}
use Rattle.jsonb.specs.Lookup.{one_accepted, LooksUpPairs}
use Rattle.jsonb.specs.Lookup.{value_view, find_pair}
use Rattle.jsonb.specs.Lookup.{find, find_index, values_up_to, words_read, pair_count_in, AnswersBy}
use Rattle.jsonb.specs.Lookup.{FindsEntry, IsItemFound, IsRefusal}
use Rattle.jsonb.proofs.Places.{At-left, At, part_at-At}
use Rattle.jsonb.proofs.PartLaws.{key_of_other_length, key_known}
use Rattle.jsonb.proofs.StoredEntryLaws.{value_trees, pair_keys, both_are}
use Rattle.jsonb.proofs.StoredEntryLaws.{length-AreMemberEntriesOf}
use Rattle.jsonb.proofs.StoredEntryLaws.{AreEntries, AreEntries-keys, AreEntries-pairs, first_entry}
use Rattle.jsonb.proofs.StoredEntryLaws.{entry_item-tree, IsObjectOfEntries-Payload, members_at}
use Rattle.jsonb.proofs.StoredEntryLaws.{length-key_codes, length-pair_keys}
use Rattle.jsonb.proofs.DocumentWalks.{object_payload, count_under-Doc}
use Rattle.std.proofs.lemmas.Map.Entries.{length-keys_of}
use Rattle.jsonb_codec.specs.Parts.{IsPayloadOf}

-- entries at their positions among the n keys' and n values', from number i
record AreAt (bytes : List ℕ) (n i : ℕ) (cs : List Code) : Type 0 where
  are : AreEntries cs
  entries : At bytes (4 + 4 * i) (code_entries cs)
  payloads : At bytes (part_start bytes n i) (code_payloads cs)

-- one entry at its position, by its number
record Part (bytes : List ℕ) (n i : ℕ) (c : Code) : Type 0 where
  entry : entry_at bytes (4 + 4 * i) (part_start bytes n i) ≡ Ok c
  jentry : jentry_at bytes (4 + 4 * i)
      ≡ Ok record { type_code = c.type; length = length c.payload }
  there : part_at bytes (part_start bytes n i) (length c.payload) ≡ Ok c.payload
  long : part_length bytes i ≡ length c.payload
  short : length c.payload < 2 ^ 28

-- the first entry, and the positions of the others
first_part : (bytes : List ℕ) (n i : ℕ) (c : Code) (cs : List Code) → AreAt bytes n i (c ∷ cs)
    → Part bytes n i c × AreAt bytes n (suc i) cs
unfolding part_length
first_part bytes n i c cs at =
    let start = part_start bytes n i in
    let f = first_entry bytes (4 + 4 * i) start c cs at.are.0 at.entries at.payloads in
    let long : part_length bytes i ≡ length c.payload = ap length_in f.jentry in
    let next : 4 + 4 * i + 4 ≡ 4 + 4 * suc i = omega arith in
    let later : start + length c.payload ≡ part_start bytes n (suc i) = omega arith in (
      record {
        entry = f.entry;
        jentry = f.jentry;
        there = part_at-At bytes start (length c.payload) c.payload refl
            (At-left bytes start c.payload (code_payloads cs) at.payloads);
        long = long;
        short = at.are.0.short;
      },
      record {
        are = at.are.1;
        entries = rw next at f.other_entries;
        payloads = rw later at f.other_payloads;
      },
    )

part_of : (bytes : List ℕ) (n i m part : ℕ) (cs : List Code) (c : Code) → AreAt bytes n i cs
    → part ≡ i + m → slice_get cs m ≡ Some c → Part bytes n part c
part_of bytes n i m part [] c at e is = cc
part_of bytes n i zero part (d ∷ cs) c at e is =
    let this : part ≡ i = omega arith in
    let same : c ≡ d = cc in
    rw (this, same) (first_part bytes n i d cs at).0
part_of bytes n i (suc m) part (d ∷ cs) c at e is =
    part_of bytes n (suc i) m part cs c (first_part bytes n i d cs at).1 (omega arith) is

module _ (size : ℕ) (bytes : List ℕ) (n i : ℕ) (c : Code) (part : Part bytes n i c) where
  -- the key with this number, if it has the size
  asked : (test : Bool) → eqb (length c.payload) size ≡ test
      → key_of_size size bytes n i ≡ Ok (if test then Some c.payload else None)
  asked true e = key_known size bytes n i _ _ (sym part.jentry) (eqb-true (length c.payload) size e)
      refl _ part.there
  asked false e = key_of_other_length size bytes n i _ (sym part.jentry)
      (eqb-false (length c.payload) size e)

  passed : (answers : List ℕ → Bool → Type 0) → IsPassedAt answers size bytes n i
      → IsPassed answers size c.payload
  passed answers here fits = rw (asked true (eq-eqb (length c.payload) size fits)) at here

  accepted : (given : List ℕ) → key_of_size size bytes n i ≡ Ok (Some given)
      → (length c.payload ≡ size) × (given ≡ c.payload)
  accepted given there = by (eqb (length c.payload) size) refl where
    by : (test : Bool) → eqb (length c.payload) size ≡ test
        → (length c.payload ≡ size) × (given ≡ c.payload)
    by true e = let here = asked true e in (eqb-true (length c.payload) size e, cc)
    by false e = let here = asked false e in cc

  key_read : IsOk (key_of_size size bytes n i)
  key_read = rw (asked (eqb (length c.payload) size) refl)

-- statements about keys by number, as statements about the pairs
module _ (answers : List ℕ → Bool → Type 0) (size : ℕ) where
  none_accepted : (ps : Pairs)
      → ((m : ℕ) (k : List ℕ) → slice_get (pair_keys ps) m ≡ Some k → IsPassed answers size k)
      → NoneAccepted answers size ps
  none_accepted no_pairs passes = tt
  none_accepted (pair k t ps) passes =
      (passes 0 k refl, none_accepted ps (λ m. passes (suc m)))

  -- the first pair that is accepted, and the entry of its value
  first_accepted : (cs : List Code) (ps : Pairs) (m : ℕ) (key : List ℕ)
      → AreCodesOf cs (value_trees ps) → slice_get (pair_keys ps) m ≡ Some key
      → length key ≡ size → answers key true
      → ((j : ℕ) (k : List ℕ) → j < m → slice_get (pair_keys ps) j ≡ Some k
      → IsPassed answers size k)
      → (v : Tree) × (c : Code) × (IsFirstAccepted answers size ps m v
      × (slice_get cs m ≡ Some c) × IsPayloadOf c.type c.payload v)
  first_accepted cs no_pairs m key mean is fits said passes = cc
  first_accepted [] (pair k t ps) m key mean is fits said passes = cc
  first_accepted (c ∷ cs) (pair k t ps) zero key mean is fits said passes =
      let same : key ≡ k = cc in
      (t, c, ((rw same at fits, (rw same at said, refl)), refl, mean.0))
  first_accepted (c ∷ cs) (pair k t ps) (suc m) key mean is fits said passes =
      let (v, d, (first, there, means)) = first_accepted cs ps m key mean.1 is fits said
      (λ j x less. passes (suc j) x (omega arith)) in
      (v, d, ((passes 0 k (omega arith) refl, first), there, means))

-- the total lengths of the keys and of the values
length_before-entries : (bytes : List ℕ) (n i j : ℕ) (cs : List Code) → AreAt bytes n i cs
    → j ≡ i + length cs
    → length_before bytes j ≡ length_before bytes i + length (code_payloads cs)
length_before-entries bytes n i j [] at end =
    let same : j ≡ i = omega arith in
    rw same (omega arith)
length_before-entries bytes n i j (c ∷ cs) at end =
    let (part, others) = first_part bytes n i c cs at in
    let more = length_before-entries bytes n (suc i) j cs others (omega arith) in
    let all = length-append c.payload (code_payloads cs) in
    let long = part.long in
    omega arith

-- the entries of an object at their positions, by number
record Numbered (bytes : List ℕ) (ps : Pairs) : Type 0 where
  members : List (List ℕ × Code)
  stored : IsObjectOfEntries bytes ps members
  mean : AreCodesOf (values_of members) (value_trees ps)
  keys : AreAt bytes (pair_count ps) 0 (key_codes (pair_keys ps))
  values : AreAt bytes (pair_count ps) (pair_count ps) (values_of members)
  counted : length (values_of members) ≡ pair_count ps

numbered : (bytes : List ℕ) (ps : Pairs) → Payload (object ps) bytes → Numbered bytes ps
numbered bytes ps h =
    let (ms, stored) = IsObjectOfEntries-Payload bytes ps h in
    let n = pair_count ps in
    let vs = values_of ms in
    let ks = key_codes (keys_of ms) in
    let at = members_at bytes ms stored.few stored.written in
    let both = both_are (keys_of ms) vs ps stored.mean in
    let count = length-values_of ms in
    let counted : length vs ≡ n = length-AreMemberEntriesOf (keys_of ms) vs ps stored.mean in
    let key_count = length-key_codes (keys_of ms) ∙ length-keys_of ms in
    let place : 4 + 4 * length ms ≡ 4 + 4 * n = omega arith in
    let front : 4 + 8 * length ms ≡ part_start bytes n 0 = omega arith in
    let keys : AreAt bytes n 0 ks = record {
      are = AreEntries-keys (keys_of ms) stored.short_keys;
      entries = at.key_entries_at;
      payloads = rw front at at.key_payloads_at;
    } in
    let before = length_before-entries bytes n 0 n ks keys (omega arith) in
    let later : 4 + 8 * length ms + length (code_payloads ks) ≡ part_start bytes n n =
    omega arith in
    let values : AreAt bytes n n vs = record {
      are = AreEntries-pairs (keys_of ms) vs ps stored.mean stored.short;
      entries = rw place at at.entries_at;
      payloads = rw later at at.payloads_at;
    } in
    record {
      members = ms;
      stored = stored;
      mean = both.1;
      keys = subst (λ ks. AreAt bytes n 0 (key_codes ks)) both.0 keys;
      values = values;
      counted = counted;
    }

-- The count in a header, by the result of reading it without its error.
module _ (b : List ℕ) (r : Result (Option ℕ) Error) (o : Option (Option ℕ))
    (same : r ≡ count_under b 1073741824) (is : o ≡ result_ok r) where
  pub count_read : (n : Option ℕ) → o ≡ Some n → Ok n ≡ count_under b 1073741824
  count_read n some = by r (sym is ∙ some) ∙ same where
    by : (r : Result (Option ℕ) Error) → result_ok r ≡ Some n → Ok n ≡ r
    by (Ok m) some = cc
    by (Err e) some = absurd cc

  -- a document's header can be read
  pub count-Doc : (t : Tree) → Doc b t → o ≡ None → ⊥
  count-Doc t doc none = by r (sym is ∙ none) same where
    by : (r : Result (Option ℕ) Error) → result_ok r ≡ None → r ≡ count_under b 1073741824 → ⊥
    by (Ok m) none same = absurd cc
    by (Err e) none same = let found = count_under-Doc b t 1073741824 doc in cc

-- The result on the bytes of a document is what is found in the document.
module _ (answers : List ℕ → Bool → Type 0) (size : ℕ) (b : List ℕ) where
  none_found : (r : Result (Option ItemView) Error) (reads : ℕ)
      → count_under b 1073741824 ≡ Ok None → LooksUpBytes answers size b r reads
      → (r ≡ Ok None) × (reads ≡ 1)
  none_found r reads found (no_header e known is) = cc
  none_found r reads found (other_header known is cost) = (is, cost)
  none_found r reads found (unread n e known past is) = cc
  none_found r reads found (all_passed n known none is cost) = cc
  none_found r reads found (one_accepted n index entry known key there is cost) = cc

  module _ (ps : Pairs) (at : Numbered b ps) where
    -- the entries by number
    key_part : (m : ℕ) (k : List ℕ) → slice_get (pair_keys ps) m ≡ Some k
        → Part b (pair_count ps) m record { type = 268435456; payload = k }
    key_part m k is = part_of b (pair_count ps) 0 m m _ _ at.keys (omega arith)
        (simp (slice_get-map, is))

    value_part : (m : ℕ) (c : Code) → slice_get (values_of at.members) m ≡ Some c
        → Part b (pair_count ps) (pair_count ps + m) c
    value_part m c = part_of b (pair_count ps) (pair_count ps) m _ _ c at.values refl

    -- the value of the accepted key, by its entry
    record ValueAt (index : ℕ) (entry : Code) : Type 0 where
      value : Tree
      first : IsFirstAccepted answers size ps index value
      stored : slice_get (values_of at.members) index ≡ Some entry
      means : IsPayloadOf entry.type entry.payload value
      short : length entry.payload < 2 ^ 28

    value_at : (index : ℕ) (entry : Code) → IsAccepted answers size b (pair_count ps) index
        → value_entry b (pair_count ps) index ≡ Ok entry → ValueAt index entry
    value_at index entry key there =
        let named = slice_get-get_or (pair_keys ps) index []
        (omega (arith, key.among, length-pair_keys ps)) in
        let (fits, given) = accepted size b _ index _ (key_part index _ named) key.key key.there in
        let (v, c, (first, stored, means)) = first_accepted answers size (values_of at.members) ps
        index _ at.mean named fits (rw given at key.accepted) (λ j x less at_j.
        passed size b _ j _ (key_part j x at_j) answers (key.earlier j less)) in
        let part = value_part index c stored in
        let read = part.entry in
        let this : entry ≡ c = cc in
        rw this record {
          value = v;
          first = first;
          stored = stored;
          means = means;
          short = part.short;
        }

    all_passed_over : PassedBefore answers size b (pair_count ps) (pair_count ps)
        → NoneAccepted answers size ps
    all_passed_over before = none_accepted answers size ps (λ m k there.
        passed size b _ m _ (key_part m k there) answers
        (before m (omega (
          arith,
          slice_get_within (pair_keys ps) m k there,
          length-pair_keys
              ps,
        ))))

    never_unread : (e : Error) → IsUnreadable answers size b (pair_count ps) e → ⊥
    never_unread e (key_unread index among before refused) =
        let is = slice_get-get_or (pair_keys ps) index [] (omega (arith, length-pair_keys ps)) in
        let read = key_read size b _ index _ (key_part index _ is) in
        let never = rw refused at read in
        cc
    never_unread e (value_unread index key refused) =
        let is = slice_get-get_or (values_of at.members) index record { type = 0; payload = [] }
        (omega (arith, key.among, at.counted)) in
        let read = (value_part index _ is).entry in
        cc

    pairs_found : (r : Result (Option ItemView) Error) (reads : ℕ)
        → count_under b 1073741824 ≡ Ok (Some (pair_count ps)) → LooksUpBytes answers size b r reads
        → IsOkAnd r (λ found. LooksUpPairs answers size b ps found reads)
    pairs_found r reads found (no_header e known is) = cc
    pairs_found r reads found (other_header known is cost) = cc
    pairs_found r reads found (unread n e known past is) =
        let same : n ≡ pair_count ps = cc in
        absurd (never_unread e (rw same at past))
    pairs_found r reads found (all_passed n known none is cost) =
        let same : n ≡ pair_count ps = cc in
        let before = subst (λ k. PassedBefore answers size b k k) same none in
        rw is record { none = all_passed_over before; cost = omega arith }
    pairs_found r reads found (one_accepted n index entry known key there is cost) =
        let same : n ≡ pair_count ps = cc in
        let key = subst (λ n. IsAccepted answers size b n index) same key in
        let there = subst (λ n. value_entry b n index ≡ Ok entry) same there in
        let f = value_at index entry key there in
        let (x, (item, shown)) = entry_item-tree entry f.value f.means f.short in
        rw (is, item) record {
          index = index;
          value = f.value;
          first = f.first;
          item = shown;
          members = at.members;
          stored = at.stored;
          entry = rw (f.stored, item);
          cost = omega arith;
        }

  pub tree_found : (t : Tree) (r : Result (Option ItemView) Error) (reads : ℕ) → Doc b t
      → LooksUpBytes answers size b r reads
      → IsOkAnd r (λ found. LooksUp answers size b t found reads)
  tree_found (object ps) r reads doc h = pairs_found ps (numbered b ps (object_payload b ps doc)) r
      reads (count_under-Doc b (object ps) 1073741824 doc) h
  tree_found t r reads doc h =
      let (is, one) = none_found r reads (count_under-Doc b t 1073741824 doc) h in
      rw is (refl, one)

  pub LooksUp-bytes : (t : Tree) (r : Result (Option JsonbItem) Error) (reads : ℕ) → Doc b t
      → LooksUpBytes answers size b (value_view r) reads
      → IsOkAnd r (λ found. LooksUp answers size b t (option_map item_view found) reads)
  LooksUp-bytes t (Ok found) reads doc = tree_found t (Ok (option_map item_view found)) reads doc
  LooksUp-bytes t (Err e) reads doc = tree_found t (Err e) reads doc

-- the errors of an entry's payload
if_refused : (b : Bool) (x y : Result ItemView Error) → IfErr x IsRefusal → IfErr y IsRefusal
    → IfErr (if b then x else y) IsRefusal
if_refused true x y h k = h
if_refused false x y h k = k

number_refused : (p : List ℕ) (o : Option Number) → IfErr (item_of_number p o) IsRefusal
number_refused p (Some x) = tt
number_refused p None = tt

error_refused : (b : Bool) → IsRefusal (if b then InvalidJsonbNumber else InvalidJsonbExtension)
error_refused true = tt
error_refused false = tt

extension_refused : (p : List ℕ) (o : Option Extension) → IfErr (item_of_extension p o) IsRefusal
extension_refused p (Some x) = tt
extension_refused p None = error_refused (has_known_tag p)

item_refused : (type : ℕ) (p : List ℕ) → IfErr (item_of type p) IsRefusal
unfolding item_of
item_refused type p = search (if_refused, number_refused, extension_refused) depth 9

pub item_of-refused : (type : ℕ) (p : List ℕ) (e : Error) → Err e ≡ item_of type p → IsRefusal e
item_of-refused type p e same = rw (← same) at (item_refused type p)

-- what is found if the closure computes one predicate, and its entry
module _ (answers : List ℕ → Bool → Type 0) (accepts : List ℕ → Bool) (size : ℕ)
    (by : AnswersBy accepts answers size) where
  passed_by_test : (key k : List ℕ) → key ≡ k → IsPassed answers size k
      → ((length key == size) && accepts key) ≡ false
  passed_by_test key k same pass = test (length key == size) (eqb-true (length key) size) where
    test : (b : Bool) → (b ≡ true → length key ≡ size) → (b && accepts key) ≡ false
    test true fits =
        let fit : length k ≡ size = rw (← same) (fits refl) in
        rw same (sym (by k false fit (pass fit)))
    test false fits = refl

  accepted_by_test : (key k : List ℕ) → key ≡ k → length k ≡ size → answers k true
      → ((length key == size) && accepts key) ≡ true
  accepted_by_test key k same fits said =
      rw (same, eq-eqb (length k) size fits) (sym (by k true fits said))

  find_pair-none : (ps : Pairs) → NoneAccepted answers size ps → find_pair accepts size ps ≡ None
  find_pair-none no_pairs none = refl
  find_pair-none (pair k t ps) none =
      rw (passed_by_test k k refl none.0) (find_pair-none ps none.1)

  find_pair-first : (ps : Pairs) (i : ℕ) (v : Tree) → IsFirstAccepted answers size ps i v
      → find_pair accepts size ps ≡ Some v
  find_pair-first no_pairs i v h = absurd h
  find_pair-first (pair k t ps) zero v h =
      rw (accepted_by_test k k refl h.0 h.1.0, h.1.1)
  find_pair-first (pair k t ps) (suc i) v h =
      rw (passed_by_test k k refl h.0) (find_pair-first ps i v h.1)

  find_index-none : (ps : Pairs) → NoneAccepted answers size ps
      → find_index accepts size ps ≡ None
  find_index-none no_pairs none = refl
  find_index-none (pair k t ps) none =
      rw (passed_by_test k k refl none.0, find_index-none ps none.1)

  find_index-first : (ps : Pairs) (i : ℕ) (v : Tree) → IsFirstAccepted answers size ps i v
      → find_index accepts size ps ≡ Some i
  find_index-first no_pairs i v h = absurd h
  find_index-first (pair k t ps) zero v h = rw (accepted_by_test k k refl h.0 h.1.0)
  find_index-first (pair k t ps) (suc i) v h =
      rw (passed_by_test k k refl h.0, find_index-first ps i v h.1)

  -- A look-up in a document, by the entries that it reads: what its tree has at the key, and how
  -- many words are read.
  module _ (b : List ℕ) (n : ℕ) where
    pub value_by_entry : (t : Tree) (entry : Code) (reads : ℕ) → Doc b t
        → Ok (Some n) ≡ count_under b 1073741824 → IsValueFound answers size b n entry reads
        → (v : Tree) × ((find accepts size t ≡ Some v) × (IsPayloadOf entry.type entry.payload v
        × (reads + 1 ≡ words_read accepts size t)))
    value_by_entry (object ps) entry reads doc counted h =
        let known = count_under-Doc b (object ps) 1073741824 doc in
        let same : n ≡ pair_count ps = cc in
        let at = numbered b ps (object_payload b ps doc) in
        let f =
        value_at answers size b ps at h.pair entry (rw same at h.key) (rw same at h.there) in (
          f.value,
          (
            find_pair-first ps h.pair f.value f.first,
            (f.means, rw (find_index-first ps h.pair f.value f.first) (omega (arith, h.cost))),
          ),
        )
    value_by_entry t entry reads doc counted h =
        absurd (let known = count_under-Doc b t 1073741824 doc in cc)

    pub none_by_entries : (t : Tree) (reads : ℕ) → Doc b t
        → Ok (Some n) ≡ count_under b 1073741824 → IsNoneFound answers size b n reads
        → (find accepts size t ≡ None) × (reads + 1 ≡ words_read accepts size t)
    none_by_entries (object ps) reads doc counted h =
        let known = count_under-Doc b (object ps) 1073741824 doc in
        let same : n ≡ pair_count ps = cc in
        let at = numbered b ps (object_payload b ps doc) in
        let none = all_passed_over answers size b ps at
        (subst (λ k. PassedBefore answers size b k k) same h.none) in
        (find_pair-none ps none, rw (find_index-none ps none) (omega (arith, h.cost)))
    none_by_entries t reads doc counted h =
        absurd (let known = count_under-Doc b t 1073741824 doc in cc)

    pub always_read : (t : Tree) (e : Error) → Doc b t → Ok (Some n) ≡ count_under b 1073741824
        → IsUnreadable answers size b n e → ⊥
    always_read (object ps) e doc counted h =
        let known = count_under-Doc b (object ps) 1073741824 doc in
        let same : n ≡ pair_count ps = cc in
        never_unread answers size b ps (numbered b ps (object_payload b ps doc)) e (rw same at h)
    always_read t e doc counted h =
        absurd (let known = count_under-Doc b t 1073741824 doc in cc)

  pub item_found : (b : List ℕ) (t : Tree) (o : Option ItemView) (reads : ℕ)
      → LooksUp answers size b t o reads → IsItemFound (find accepts size t) o
  item_found b (object ps) None reads h = rw (find_pair-none ps h.none) tt
  item_found b (object ps) (Some x) reads h =
      rw (find_pair-first ps h.index h.value h.first) h.item
  item_found b t o reads h = rw h.0 tt

  pub words_found : (b : List ℕ) (t : Tree) (o : Option ItemView) (reads : ℕ)
      → LooksUp answers size b t o reads → reads ≡ words_read accepts size t
  words_found b (object ps) None reads h =
      rw (find_index-none ps h.none) (omega (arith, h.cost))
  words_found b (object ps) (Some x) reads h =
      rw (find_index-first ps h.index h.value h.first) (omega (arith, h.cost))
  words_found b t o reads h = h.1

  pub find_entry-none : (ms : List (List ℕ × Code)) (ps : Pairs)
      → AreMemberEntriesOf (keys_of ms) (values_of ms) ps → NoneAccepted answers size ps
      → find_entry accepts size ms ≡ None
  find_entry-none [] ps h none = refl
  find_entry-none (m ∷ ms) no_pairs h none = absurd h
  find_entry-none (m ∷ ms) (pair k t ps) h none =
      rw (passed_by_test m.0 k h.0 none.0) (find_entry-none ms ps h.1.1 none.1)

  pub find_entry-first : (ms : List (List ℕ × Code)) (ps : Pairs) (i : ℕ) (v : Tree)
      → AreMemberEntriesOf (keys_of ms) (values_of ms) ps → IsFirstAccepted answers size ps i v
      → find_entry accepts size ms ≡ slice_get (values_of ms) i
  find_entry-first [] ps i v h first = absurd (rw h at first)
  find_entry-first (m ∷ ms) no_pairs i v h first = absurd h
  find_entry-first (m ∷ ms) (pair k t ps) zero v h first =
      rw (accepted_by_test m.0 k h.0 first.0 first.1.0)
  find_entry-first (m ∷ ms) (pair k t ps) (suc i) v h first =
      rw (passed_by_test m.0 k h.0 first.0) (find_entry-first ms ps i v h.1.1 first.1)

  pub found_stored : (b : List ℕ) (t : Tree) (o : Option ItemView) (reads : ℕ) → Doc b t
      → LooksUp answers size b t o reads → IsFoundIn accepts size b t o
  found_stored b (object ps) None reads doc h =
      let (ms, stored) = IsObjectOfEntries-Payload b ps (object_payload b ps doc) in
      (ms, (stored, rw (find_entry-none ms ps stored.mean h.none)))
  found_stored b (object ps) (Some x) reads doc h =
      let first = find_entry-first h.members ps h.index h.value h.stored.mean h.first in
      (h.members, (h.stored, rw first h.entry))
  found_stored b t o reads doc h = h.0

  -- The entry that is read, or that there is none, in the document of an object.
  module _ (b : List ℕ) (n : ℕ) where
    pub entry_by_entry : (t : Tree) (entry : Code) (reads : ℕ) → Doc b t
        → Ok (Some n) ≡ count_under b 1073741824 → IsValueFound answers size b n entry reads
        → IsEntryAt accepts size b t (Some entry)
    entry_by_entry (object ps) entry reads doc counted h =
        let known = count_under-Doc b (object ps) 1073741824 doc in
        let same : n ≡ pair_count ps = cc in
        let at = numbered b ps (object_payload b ps doc) in
        let f =
        value_at answers size b ps at h.pair entry (rw same at h.key) (rw same at h.there) in (
          at.members,
          (
            at.stored,
            find_entry-first at.members ps h.pair f.value at.stored.mean f.first ∙ f.stored,
          ),
        )
    entry_by_entry t entry reads doc counted h =
        absurd (let known = count_under-Doc b t 1073741824 doc in cc)

    pub no_entry_by_entries : (t : Tree) (reads : ℕ) → Doc b t
        → Ok (Some n) ≡ count_under b 1073741824 → IsNoneFound answers size b n reads
        → IsEntryAt accepts size b t None
    no_entry_by_entries (object ps) reads doc counted h =
        let known = count_under-Doc b (object ps) 1073741824 doc in
        let same : n ≡ pair_count ps = cc in
        let at = numbered b ps (object_payload b ps doc) in
        let none = all_passed_over answers size b ps at
        (subst (λ k. PassedBefore answers size b k k) same h.none) in
        (at.members, (at.stored, find_entry-none at.members ps at.stored.mean none))
    no_entry_by_entries t reads doc counted h =
        absurd (let known = count_under-Doc b t 1073741824 doc in cc)

-- In a document that is no object nothing is found, after the header's word.

-- The entry that a look-up finds, by its result without its error.
module _ (answers : List ℕ → Bool → Type 0) (size : ℕ) (b : List ℕ) (n reads : ℕ)
    (r : Result (Option Entry) Error) (o : Option (Option Entry)) (is : o ≡ result_ok r)
    (found : FindsEntry answers size b n r reads) where
  pub entry_read : (x : Option Entry) → o ≡ Some x → FindsEntry answers size b n (Ok x) reads
  entry_read x some = by r (sym is ∙ some) found where
    by : (r : Result (Option Entry) Error) → result_ok r ≡ Some x
        → FindsEntry answers size b n r reads → FindsEntry answers size b n (Ok x) reads
    by (Ok y) some found =
        let same : y ≡ x = cc in subst (λ z. FindsEntry answers size b n (Ok z) reads) same found
    by (Err e) some found = absurd cc

  pub entry_unread : ((e : Error) → IsUnreadable answers size b n e → ⊥) → o ≡ None → ⊥
  entry_unread never none = by r (sym is ∙ none) found where
    by : (r : Result (Option Entry) Error) → result_ok r ≡ None
        → FindsEntry answers size b n r reads → ⊥
    by (Ok y) none found = absurd cc
    by (Err e) none found = never e found

pub entry_in : (accepts : List ℕ → Bool) (size : ℕ) (a b : List ℕ) (t : Tree) (found : Option Code)
    → a ≡ b → IsEntryAt accepts size a t found → IsEntryAt accepts size b t found
entry_in accepts size a b t found same =
    subst (λ (x : List ℕ). IsEntryAt accepts size x t found) same

pub no_entry_by_header : (accepts : List ℕ → Bool) (size : ℕ) (b : List ℕ) (t : Tree) → Doc b t
    → Ok None ≡ count_under b 1073741824 → IsEntryAt accepts size b t None
no_entry_by_header accepts size b (object ps) doc counted =
    absurd (let known = count_under-Doc b (object ps) 1073741824 doc in cc)
no_entry_by_header accepts size b t doc counted = refl

pub none_by_header : (accepts : List ℕ → Bool) (size : ℕ) (b : List ℕ) (t : Tree) → Doc b t
    → Ok None ≡ count_under b 1073741824
    → (find accepts size t ≡ None) × (1 ≡ words_read accepts size t)
none_by_header accepts size b (object ps) doc counted =
    absurd (let known = count_under-Doc b (object ps) 1073741824 doc in cc)
none_by_header accepts size b t doc counted = (refl, refl)

-- At most two words for each pair are read, and the header.
values_within : (accepts : List ℕ → Bool) (size : ℕ) (ps : Pairs)
    → values_up_to (find_index accepts size ps) ≤ pair_count ps
values_within accepts size no_pairs = omega arith
values_within accepts size (pair k t ps) =
    at_test ((length k == size) && accepts k) (find_index accepts size ps)
    (values_within accepts size ps)
  where
    at_test : (b : Bool) (index : Option ℕ) → values_up_to index ≤ pair_count ps
        → values_up_to (if b then Some 0 else option_map suc index) ≤ suc (pair_count ps)
    at_test true index h = omega arith
    at_test false (Some i) h = omega (arith, h)
    at_test false None h = omega arith

pub words_read-within : (accepts : List ℕ → Bool) (size : ℕ) (t : Tree)
    → words_read accepts size t ≤ 2 * pair_count_in t + 1
words_read-within accepts size (object ps) = omega (arith, values_within accepts size ps)
words_read-within accepts size null = omega arith
words_read-within accepts size (boolean v) = omega arith
words_read-within accepts size (number v) = omega arith
words_read-within accepts size (text v) = omega arith
words_read-within accepts size (extension v) = omega arith
words_read-within accepts size (array ts) = omega arith

-- A weaker property of a successful result.
pub IsOkAnd-weaker : {A E : Type 0} (r : Result A E) (P Q : A → Type 0) → ((x : A) → P x → Q x)
    → IsOkAnd r P → IsOkAnd r Q
IsOkAnd-weaker (Ok x) P Q weaker h = weaker x h
IsOkAnd-weaker (Err e) P Q weaker h = h
