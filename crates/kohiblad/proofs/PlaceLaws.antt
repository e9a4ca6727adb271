-- The positions of the parts of an array or object.
use Rattle.std.proofs.Common.{◌≡◌, ℕ, zero, suc, ◌+◌, ◌-◌, ◌*◌, ◌<◌, ◌≤◌, ◌⊎◌}
use Rattle.std.proofs.Common.{List, [], ◌∷◌, ◌++◌, length, slice_get, slice_index_or, Option, None}
use Rattle.std.proofs.Common.{Some, option_map, Result, Ok, Err, refl, sym, ap, ap₂, subst, ◌∙◌}
use Rattle.std.proofs.Common.{inl, inr, arith, le-leb, append_assoc, length-append}
use Rattle.std.specs.Map.{keys_of, values_of}
use Rattle.std.specs.Option.{option_transpose}
use Rattle.std.proofs.lemmas.Bool.{lt-leb}
use Rattle.std.proofs.lemmas.Map.Entries.{length-keys_of, length-values_of}
use Rattle.std.proofs.lemmas.Option.{slice_get_cases, slice_get_past}
use Rattle.jsonb_value.specs.declared.error.Error.{Error}
use Rattle.jsonb_value.specs.Tree.{Tree, array, object, Trees, Pairs}
use Rattle.jsonb_codec.specs.Doc.{Doc, Payload}
use Rattle.jsonb_codec.specs.WordBytes.{word, header_at}
use Rattle.jsonb.specs.Building.{key_codes}
use Rattle.jsonb.proofs.LeafLaws.{code_entries, code_payloads, object_of-parts}
use Rattle.jsonb.specs.Entry.{entry_there, placed_at, Code}
use Rattle.jsonb.specs.Entries.{Run, entries_in, entry_count, left_after, payloads_end}
use Rattle.jsonb.specs.Entries.{placed_from, run_in}
use Rattle.jsonb.specs.Parts.{length_in}
use Rattle.jsonb.specs.StoredEntries.{IsArrayOfEntries, IsObjectOfEntries}
use Rattle.jsonb.specs.Steps.{◌>>=◌}
use Rattle.jsonb.proofs.EntryLaws.{IsLess, cut_later, left_after-get, length-placed_from}
use Rattle.jsonb.proofs.EntryLaws.{skip_cut, skipped}
use Rattle.jsonb.proofs.KindLaws.{container_cases, header_at-Scalar, header_at-array}
use Rattle.jsonb.proofs.KindLaws.{header_at-object}
use Rattle.jsonb.proofs.Places.{At, At-all, At-left, At-right, At-after_word, take-At, within-At}
use Rattle.jsonb.proofs.StoredEntryLaws.{AreEntries, AreEntries-trees, AreEntries-keys}
use Rattle.jsonb.proofs.StoredEntryLaws.{AreEntries-pairs, IsArrayOfEntries-Payload}
use Rattle.jsonb.proofs.StoredEntryLaws.{IsObjectOfEntries-Payload}
use Rattle.jsonb.proofs.StoredEntryLaws.{first_entry, items_at, length-key_codes, members_at}
use Rattle.jsonb.proofs.StorageLaws.{length-code_entries}
use Rattle.jsonb.specs.declared.entries.Entry.{Entry}
use Rattle.jsonb.specs.Prefix.{some_entry}
use Rattle.kohiblad.specs.Places.{all_entries, item_part, member_places, member_there}
use Rattle.kohiblad.specs.Places.{member_under, part_in, place_of_item}
use Rattle.kohiblad.specs.Places.{IsItemPlace, IsPartPlace, AreMemberPlaces}

-- The entries under a header.
abbrev parts_under : List ℕ → ℕ × ℕ → List (Result Entry Error)
parts_under bytes header = placed_from bytes (entry_count header) 4 (4 + 4 * entry_count header)

one_part : (r : Result Entry Error) → option_transpose (Some r) ≡ some_entry r
one_part (Ok entry) = refl
one_part (Err e) = refl

-- A part of any bytes that have a header.
module _ (bytes : List ℕ) (header : ℕ × ℕ) (is : header_at bytes 0 ≡ Ok header) (k : ℕ) where
  listed : part_in bytes k ≡ option_transpose (slice_get (parts_under bytes header) k)
  listed = ap (λ (r : Result (ℕ × ℕ) Error). (r >>= (λ (h : ℕ × ℕ). Ok (parts_under bytes h)))
      >>= (λ parts. option_transpose (slice_get parts k))) is

  pub part_past : entry_count header ≤ k → part_in bytes k ≡ Ok None
  part_past past =
      let long = length-placed_from bytes (entry_count header) 4 (4 + 4 * entry_count header) in
      listed ∙ ap option_transpose (slice_get_past _ k (omega (arith, long)))

  module _ (among : k < entry_count header) where
    abbrev n : ℕ
    n = entry_count header

    abbrev less : IsLess k n k
    less = inl (refl, omega (arith, among))

    -- It begins where the payloads before it end.
    pub part_from : (v : ℕ) → payloads_end bytes k 4 (4 + 4 * n) ≡ Ok v
        → part_in bytes k ≡ some_entry (placed_at bytes (4 + 4 * k) v)
    part_from v ends =
        let some : n - k ≡ suc (n - suc k) = omega (arith, among) in
        listed
        ∙ ap option_transpose
        (sym (left_after-get k (parts_under bytes header) _
        (skipped bytes k n k 4 (4 + 4 * n) less v ends))
        ∙ ap (λ (l : ℕ). slice_get (placed_from bytes l (4 + 4 * k) v) 0) some)
        ∙ one_part (placed_at bytes (4 + 4 * k) v)

    -- It is read where that is, or cannot be read.
    pub part_read : part_in bytes k
        ≡ some_entry (payloads_end bytes k 4 (4 + 4 * n) >>= placed_at bytes (4 + 4 * k))
    part_read = by (payloads_end bytes k 4 (4 + 4 * n)) refl where
      by : (r : Result ℕ Error) → payloads_end bytes k 4 (4 + 4 * n) ≡ r
          → part_in bytes k ≡ some_entry (r >>= placed_at bytes (4 + 4 * k))
      by (Ok v) ends = part_from v ends
      by (Err e) ends = listed ∙ ap option_transpose
          (cut_later bytes k n 4 (4 + 4 * n) e among (skip_cut bytes k n k 4 (4 + 4 * n) less e ends))

-- The part to which a cursor over all entries comes.
module _ (bytes : List ℕ) (number : ℕ) (run : Run) (is : run_in bytes ≡ Ok run) where
  entries_by : (r : Result (List (Result Entry Error)) Error)
      → r >>= (λ entries. Ok (record { bytes = bytes; entries = entries })) ≡ Ok run
      → r ≡ Ok run.entries
  entries_by (Ok entries) is = cc
  entries_by (Err e) is = absurd cc

  number_listed : option_transpose (slice_get run.entries number) ≡ part_in bytes number
  number_listed =
      sym (ap (λ r. r >>= (λ parts. option_transpose (slice_get parts number)))
      (entries_by (entries_in bytes) is))

  pub part_after : (left : List (Result Entry Error))
      → left_after number run.entries ≡ Ok left
      → option_transpose (slice_get left 0) ≡ part_in bytes number
  part_after left after =
      ap option_transpose (left_after-get number run.entries left after) ∙ number_listed

  cut_by : (e : Error) → number < length run.entries → left_after number run.entries ≡ Err e
      → (r : Result (ℕ × ℕ) Error)
      → r >>= (λ (h : ℕ × ℕ). Ok (parts_under bytes h)) ≡ Ok run.entries
      → slice_get run.entries number ≡ Some (Err e)
  cut_by e among cut (Ok h) listed =
      let count = entry_count h in
      let same : parts_under bytes h ≡ run.entries = cc in
      let long = length-placed_from bytes count 4 (4 + 4 * count) in
      let less = ap length same in
      ap (λ xs. slice_get xs number) (sym same)
      ∙ cut_later bytes number count 4 (4 + 4 * count) e (omega (arith, among, long, less))
      (ap (left_after number) same ∙ cut)
  cut_by e among cut (Err d) listed = absurd cc

  pub part_cut : (e : Error) → number < length run.entries → left_after number run.entries ≡ Err e
      → Err e ≡ part_in bytes number
  part_cut e among cut =
      ap option_transpose (sym (cut_by e among cut (header_at bytes 0)
      (entries_by (entries_in bytes) is)))
      ∙ number_listed

-- The place of an entry that is stored in the bytes, and where it was found.
pub record IsPlaced (bytes : List ℕ) (Found : Entry → Type 0) (c : Code) : Type 0 where
  pub place : Entry
  pub found : Found place
  pub there : entry_there bytes place ≡ c
  pub inside : place.start + place.length ≤ length bytes

pub place_stored : (bytes : List ℕ) (i j : ℕ) (c : Code) (cs : List Code) → AreEntries (c ∷ cs)
    → At bytes i (code_entries (c ∷ cs)) → At bytes j (code_payloads (c ∷ cs))
    → IsPlaced bytes (λ place. placed_at bytes i j ≡ Ok place) c
place_stored bytes i j c cs is a b =
    let payload = At-left bytes j c.payload (code_payloads cs) b in
    let within = within-At bytes j c.payload payload in
    let inside = le-leb (j + length c.payload) (length bytes) within in
    let jentry = (first_entry bytes i j c cs is.0 a b).jentry in
    record {
      place = record { type_code = c.type; start = j; length = length c.payload };
      found = rw (jentry, inside) refl;
      there = ap (λ (p : List ℕ). record { type = c.type; payload = p })
          (take-At bytes j c.payload payload);
      inside = within;
    }

-- The entry with a number among those that are stored.
nth_stored : (bytes : List ℕ) (n k i j : ℕ) (cs : List Code) (c : Code) → n ≡ length cs
    → AreEntries cs → At bytes i (code_entries cs) → At bytes j (code_payloads cs)
    → slice_get cs k ≡ Some c
    → IsPlaced bytes (λ place. slice_get (placed_from bytes n i j) k ≡ Some (Ok place)) c
nth_stored bytes n zero i j [] c count is a b there = absurd cc
nth_stored bytes n (suc k) i j [] c count is a b there = absurd cc
nth_stored bytes zero k i j (x ∷ cs) c count is a b there = absurd (omega arith)
nth_stored bytes (suc n) zero i j (x ∷ cs) c count is a b there =
    let same : x ≡ c = cc in
    let first = place_stored bytes i j x cs is a b in
    record {
      place = first.place;
      found = ap (λ (r : Result Entry Error). Some r) first.found;
      there = first.there ∙ same;
      inside = first.inside;
    }
nth_stored bytes (suc n) (suc k) i j (x ∷ cs) c count is a b there =
    let f = first_entry bytes i j x cs is.0 a b in
    let size = ap length_in f.jentry in
    subst (λ (m : ℕ). IsPlaced bytes (λ place. slice_get (placed_from bytes n (i + 4) (j + m)) k
    ≡ Some (Ok place)) c) (sym size)
    (nth_stored bytes n k (i + 4) (j + length x.payload) cs c (omega arith) is.1 f.other_entries
    f.other_payloads there)

-- The parts of the bytes are these entries.
pub record HoldEntries (b : List ℕ) (cs : List Code) : Type 0 where
  header : ℕ × ℕ
  is : header_at b 0 ≡ Ok header
  count : entry_count header ≡ length cs
  are : AreEntries cs
  entries_at : At b 4 (code_entries cs)
  payloads_at : At b (4 + 4 * length cs) (code_payloads cs)

-- The part with a number.
abbrev pub IsPartAt : List ℕ → ℕ → Code → Type 0
IsPartAt b k = IsPlaced b (λ place. part_in b k ≡ Ok (Some place))

module _ (b : List ℕ) (cs : List Code) (h : HoldEntries b cs) where
  pub part_at : (k : ℕ) (c : Code) → slice_get cs k ≡ Some c → IsPartAt b k c
  part_at k c there =
      let count = h.count in
      let at = nth_stored b (entry_count h.header) k 4 (4 + 4 * entry_count h.header) cs c count
      h.are h.entries_at
      (subst (λ (n : ℕ). At b (4 + 4 * n) (code_payloads cs)) (sym count) h.payloads_at) there in
      record {
        place = at.place;
        found = listed b h.header h.is k ∙ ap option_transpose at.found;
        there = at.there;
        inside = at.inside;
      }

  part_by : (k : ℕ)
      → ((c : Code) × (k < length cs) × (slice_get cs k ≡ Some c) × (slice_index_or cs k c ≡ c))
      ⊎ ((length cs ≤ k) × (slice_get cs k ≡ None))
      → (o : Option Entry) × ((part_in b k ≡ Ok o)
      × (option_map (entry_there b) o ≡ slice_get cs k))
  part_by k (inl (c, among, there, here)) =
      let at = part_at k c there in
      (Some at.place, (at.found, ap (λ (e : Code). Some e) at.there ∙ sym there))
  part_by k (inr (past, none)) =
      let count = h.count in
      (None, (part_past b h.header h.is k (omega (arith, count)), sym none))

-- An array's items.
pub hold_items : (b : List ℕ) (ts : Trees) (cs : List Code) → IsArrayOfEntries b ts cs
    → HoldEntries b cs
hold_items b ts cs h =
    let at = items_at b cs h.few h.written in
    record {
      header = (2147483648, length cs);
      is = at.header;
      count = refl;
      are = AreEntries-trees cs ts h.mean h.short;
      entries_at = at.entries_at;
      payloads_at = at.payloads_at;
    }

items_part : (b : List ℕ) (ts : Trees) (k : ℕ) → Payload (array ts) b
    → IsPartPlace b (array ts) k (part_in b k)
items_part b ts k h =
    let (cs, stored) = IsArrayOfEntries-Payload b ts h in
    (cs, (stored, part_by b cs (hold_items b ts cs stored) k (slice_get_cases cs k).1))

pub place_of_item_stored : (b : List ℕ) (t : Tree) (index : ℕ) → Doc b t
    → IsItemPlace b t index (place_of_item b index)
place_of_item_stored b t index (inr (is, h)) =
    container_cases (λ (u : Tree). Payload u b → IsItemPlace b u index (place_of_item b index)) t is
    (λ ts h. subst (IsItemPlace b (array ts) index)
    (sym (ap (λ (r : Result (ℕ × ℕ) Error). r >>= item_part b index) (header_at-array b ts h)))
    (items_part b ts index h))
    (λ ps h. ap (λ (r : Result (ℕ × ℕ) Error). r >>= item_part b index) (header_at-object b ps h))
    h
place_of_item_stored b (array ts) index (inl (other, h)) = absurd (other refl)
place_of_item_stored b t index (inl (other, h)) =
    ap (λ (r : Result (ℕ × ℕ) Error). r >>= item_part b index) (header_at-Scalar b t h)

AreEntries-append : (cs ds : List Code) → AreEntries cs → AreEntries ds → AreEntries (cs ++ ds)
AreEntries-append [] ds is are = are
AreEntries-append (c ∷ cs) ds is are = (is.0, AreEntries-append cs ds is.1 are)

code_entries-append : (cs ds : List Code)
    → code_entries (cs ++ ds) ≡ code_entries cs ++ code_entries ds
code_entries-append [] ds = refl
code_entries-append (c ∷ cs) ds =
    let e = word (c.type + length c.payload) in
    ap (λ (x : List ℕ). word (c.type + length c.payload) ++ x) (code_entries-append cs ds)
    ∙ sym (append_assoc e (code_entries cs) (code_entries ds))

code_payloads-append : (cs ds : List Code)
    → code_payloads (cs ++ ds) ≡ code_payloads cs ++ code_payloads ds
code_payloads-append [] ds = refl
code_payloads-append (c ∷ cs) ds =
    ap (λ (x : List ℕ). c.payload ++ x) (code_payloads-append cs ds)
    ∙ sym (append_assoc c.payload (code_payloads cs) (code_payloads ds))

length-all_keys : (ms : List (List ℕ × Code)) → length (key_codes (keys_of ms)) ≡ length ms
length-all_keys ms = length-key_codes (keys_of ms) ∙ length-keys_of ms

key_at_index : (ms : List (List ℕ × Code)) (ds : List Code) (i : ℕ) (m : List ℕ × Code)
    → slice_get ms i ≡ Some m
    → slice_get (key_codes (keys_of ms) ++ ds) i ≡ Some record { type = 268435456; payload = m.0 }
key_at_index [] ds zero m there = absurd cc
key_at_index [] ds (suc i) m there = absurd cc
key_at_index (x ∷ ms) ds zero m there = cc
key_at_index (x ∷ ms) ds (suc i) m there = key_at_index ms ds i m there

value_at_index : (ms : List (List ℕ × Code)) (i : ℕ) (m : List ℕ × Code) → slice_get ms i ≡ Some m
    → slice_get (values_of ms) i ≡ Some m.1
value_at_index [] zero m there = absurd cc
value_at_index [] (suc i) m there = absurd cc
value_at_index (x ∷ ms) zero m there = cc
value_at_index (x ∷ ms) (suc i) m there = value_at_index ms i m there

after_keys : (cs ds : List Code) (k i : ℕ) (c : Code) → k ≡ length cs + i
    → slice_get ds i ≡ Some c → slice_get (cs ++ ds) k ≡ Some c
after_keys [] ds k i c e there = let same : k ≡ i = omega arith in ap (slice_get ds) same ∙ there
after_keys (x ∷ cs) ds zero i c e there = absurd (omega arith)
after_keys (x ∷ cs) ds (suc k) i c e there = after_keys cs ds k i c (omega arith) there

hold_members : (b : List ℕ) (ps : Pairs) (ms : List (List ℕ × Code)) → IsObjectOfEntries b ps ms
    → HoldEntries b (all_entries ms)
hold_members b ps ms h =
    let ks = key_codes (keys_of ms) in
    let vs = values_of ms in
    let laid = object_of-parts (keys_of ms) vs (length-keys_of ms ∙ sym (length-values_of ms)) in
    let parts =
    ap₂ (λ (x y : List ℕ). x ++ y) (code_entries-append ks vs) (code_payloads-append ks vs)
    ∙ append_assoc (code_entries ks) (code_entries vs) (code_payloads ks ++ code_payloads vs) in
    let both = subst (At b 4) (sym parts) (At-after_word b 0 4 (1073741824 + length vs) _ refl
    (At-all b _ (h.written ∙ laid))) in
    let keys = length-all_keys ms in
    let values = length-values_of ms in
    let all = length-append ks vs in
    let long = length-code_entries (all_entries ms) in
    record {
      header = (1073741824, length ms);
      is = (members_at b ms h.few h.written).header;
      count = omega (arith, keys, values, all);
      are = AreEntries-append ks vs (AreEntries-keys (keys_of ms) h.short_keys)
          (AreEntries-pairs (keys_of ms) vs ps h.mean h.short);
      entries_at =
          At-left b 4 (code_entries (all_entries ms)) (code_payloads (all_entries ms)) both;
      payloads_at = At-right b 4 (4 + 4 * length (all_entries ms)) (code_entries (all_entries ms))
          (code_payloads (all_entries ms)) (omega (arith, long)) both;
    }

module _ (b : List ℕ) (ps : Pairs) (ms : List (List ℕ × Code)) (h : IsObjectOfEntries b ps ms)
    (index : ℕ) where
  pub member_key_at : (m : List ℕ × Code) → slice_get ms index ≡ Some m
      → IsPartAt b index (record { type = 268435456; payload = m.0 })
  member_key_at m there = part_at b (all_entries ms) (hold_members b ps ms h) index _
      (key_at_index ms (values_of ms) index m there)

  pub value_stored : (c : Code) → slice_get (values_of ms) index ≡ Some c
      → IsPartAt b (length ms + index) c
  value_stored c there =
      let number_of : length ms + index ≡ length (key_codes (keys_of ms)) + index =
      ap (λ (n : ℕ). n + index) (sym (length-all_keys ms)) in
      part_at b (all_entries ms) (hold_members b ps ms h) (length ms + index) c
      (after_keys (key_codes (keys_of ms)) (values_of ms) (length ms + index) index c number_of
      there)

  pub member_value_at : (m : List ℕ × Code) → slice_get ms index ≡ Some m
      → IsPartAt b (length ms + index) m.1
  member_value_at m there = value_stored m.1 (value_at_index ms index m there)

  member_at :
      ((m : List ℕ × Code) × (index < length ms) × (slice_get ms index ≡ Some m)
      × (slice_index_or ms index m ≡ m)) ⊎ ((length ms ≤ index) × (slice_get ms index ≡ None))
      → (o : Option (Entry × Entry))
      × ((member_under b index (1073741824, length ms) ≡ Ok o)
      × (option_map (member_there b) o ≡ slice_get ms index))
  member_at (inl (m, inside, there, here)) =
      let key = member_key_at m there in
      let value = member_value_at m there in
      let test = lt-leb (length ms) index inside in
      let key_found = key.found in
      let value_found = value.found in (
        Some (key.place, value.place),
        (
          rw (test, key_found, value_found) refl,
          ap₂ (λ (k v : Code). Some (k.payload, v)) key.there value.there ∙ sym there,
        ),
      )
  member_at (inr (past, absent)) =
      let test = le-leb (length ms) index past in
      (None, (rw test refl, sym absent))

member_stored : (b : List ℕ) (ps : Pairs) (index : ℕ) → Payload (object ps) b
    → AreMemberPlaces b (object ps) index (member_places b index)
member_stored b ps index h =
    let (ms, stored) = IsObjectOfEntries-Payload b ps h in
    let at = members_at b ms stored.few stored.written in
    let (o, (found, there)) = member_at b ps ms stored index (slice_get_cases ms index).1 in
    let here = ap (λ (r : Result (ℕ × ℕ) Error). r >>= member_under b index) at.header in
    (ms, (stored, (o, (here ∙ found, there))))

members_part : (b : List ℕ) (ps : Pairs) (k : ℕ) → Payload (object ps) b
    → IsPartPlace b (object ps) k (part_in b k)
members_part b ps k h =
    let (ms, stored) = IsObjectOfEntries-Payload b ps h in (
      ms,
      (
        stored,
        part_by b (all_entries ms) (hold_members b ps ms stored) k
            (slice_get_cases (all_entries ms) k).1,
      ),
    )

pub part_in_stored : (b : List ℕ) (t : Tree) (k : ℕ) → Doc b t → IsPartPlace b t k (part_in b k)
part_in_stored b t k (inr (is, h)) =
    container_cases (λ (u : Tree). Payload u b → IsPartPlace b u k (part_in b k)) t is
    (λ ts. items_part b ts k) (λ ps. members_part b ps k) h
part_in_stored b (array ts) k (inl (other, h)) = absurd (other refl)
part_in_stored b (object ps) k (inl (other, h)) = absurd (other refl)
part_in_stored b t k (inl (other, h)) = part_past b _ (header_at-Scalar b t h) k (omega arith)

pub member_places_stored : (b : List ℕ) (t : Tree) (index : ℕ) → Doc b t
    → AreMemberPlaces b t index (member_places b index)
member_places_stored b t index (inr (is, h)) =
    container_cases
    (λ (u : Tree). Payload u b → AreMemberPlaces b u index (member_places b index)) t is
    (λ ts h. ap (λ (r : Result (ℕ × ℕ) Error). r >>= member_under b index) (header_at-array b ts h))
    (λ ps. member_stored b ps index) h
member_places_stored b (object ps) index (inl (other, h)) = absurd (other refl)
member_places_stored b t index (inl (other, h)) =
    ap (λ (r : Result (ℕ × ℕ) Error). r >>= member_under b index) (header_at-Scalar b t h)
