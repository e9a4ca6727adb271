-- A look-up in a prefix of the bytes: what it reads there is the same in all of them.
use Rattle.std.proofs.Common.{◌≡◌, ℕ, zero, suc, ◌+◌, ◌-◌, ◌*◌, ◌<◌, ◌≤◌, ◌==◌, ◌⊎◌, inl, inr}
use Rattle.std.proofs.Common.{if◌then◌else◌, Bool, true, false, List, [], ◌∷◌, ◌++◌, length, take}
use Rattle.std.proofs.Common.{drop, Option, None, Some, Result, Ok, Err, refl, sym, ap}
use Rattle.std.proofs.Common.{subst, ◌∙◌, arith, min, eqb-true, le-leb, length-append, length-drop}
use Rattle.std.proofs.Common.{append-nil, option_map, IsOkAnd}
use Rattle.std.specs.Int.{w32, from_be_bytes}
use Rattle.std.proofs.lemmas.Bool.{lt-ltb, le-ltb, ltb-true, ltb-false}
use Rattle.std.proofs.lemmas.Bool.Decides.{leb_tells}
use Rattle.std.proofs.lemmas.List.{take-append-le, drop-append-le}
use Rattle.std.proofs.Math.Dec.{leb, ltb}
use Rattle.jsonb_value.specs.declared.error.Error.{Error}
use Rattle.jsonb_value.specs.Tree.{Tree}
use Rattle.jsonb_codec.specs.declared.constants.TheConstants.{OBJECT_CONTAINER_TAG}
use Rattle.jsonb_codec.specs.declared.jentry.JEntry.{JEntry}
use Rattle.jsonb_codec.specs.Doc.{Doc}
use Rattle.jsonb_codec.specs.JEntry.{jentry_in, jentry_at}
use Rattle.jsonb_codec.specs.WordBytes.{word_at, header_in}
use Rattle.jsonb_codec.proofs.RoomLaws.{word_at-inside}
use Rattle.jsonb.specs.declared.entries.Entry.{Entry}
use Rattle.jsonb.specs.declared.lookup.ValueWord.{ValueWord}
use Rattle.jsonb.specs.declared.lookup.prefix.Progress.{Progress}
use Rattle.jsonb.specs.declared.lookup.prefix.Progress.TheVariants as progress
use Rattle.jsonb.specs.Entries.{payloads_end}
use Rattle.jsonb.specs.Entry.{entry_there, part_at, placed_by, placed_within}
use Rattle.jsonb.specs.Lookup.{FindsEntry, FindsWord}
use Rattle.jsonb.specs.Parts.{length_in, part_length, length_before, part_start, key_of_size}
use Rattle.jsonb.specs.Parts.{HasParts, PassedBefore, IsPlaceOf, key_unread, value_unread}
use Rattle.jsonb.specs.Prefix.{is_name, FindsPlace, FindsUnder, stops_under, key_stops, next_stop}
use Rattle.jsonb.specs.Prefix.{progress_of, item_entry, item_stops, item_below, some_entry}
use Rattle.jsonb.specs.Prefix.{IsProgress, IsKeyProgress, IsFoundInDocument}
use Rattle.jsonb.specs.Steps.{◌>>=◌}
use Rattle.jsonb.specs.StoredEntries.{IsEntryAt}
use Rattle.jsonb.specs.Walk.{count_if, count_under}
use Rattle.jsonb.proofs.AnswerLaws.{passed_before, accepted}
use Rattle.jsonb.proofs.DocumentWalks.{count_under-Doc}
use Rattle.jsonb.proofs.LookupLaws.{always_read, entry_by_entry, no_entry_by_entries}
use Rattle.jsonb.proofs.LookupLaws.{no_entry_by_header}
use Rattle.jsonb.proofs.PartLaws.{ends_there, length_before-le, part_past, placed_part, value_known}
use Rattle.jsonb.proofs.PartLaws.{part_fits, value_placed}

-- the key that has the size, by its entry word and its payload
abbrev key_by : ℕ → Result JEntry Error → Result (List ℕ) Error → Result (Option (List ℕ)) Error
key_by size read key = read >>= λ (jentry : JEntry).
    if jentry.length == size then (key >>= λ k. Ok (Some k)) else Ok None

key_by-same : (size : ℕ) (read : Result JEntry Error) (x y : Result (List ℕ) Error)
    → (length_in read ≡ size → x ≡ y) → key_by size read x ≡ key_by size read y
key_by-same size (Err e) x y same = refl
key_by-same size (Ok jentry) x y same =
    by (jentry.length == size) (eqb-true jentry.length size) where
      by : (fits : Bool) → (fits ≡ true → jentry.length ≡ size)
          → (if fits then (x >>= λ k. Ok (Some k)) else Ok None)
          ≡ (if fits then (y >>= λ k. Ok (Some k)) else Ok None)
      by true long = ap (λ (z : Result (List ℕ) Error). z >>= λ k. Ok (Some k)) (same (long refl))
      by false long = refl

-- What is within the prefix.
module _ (p rest : List ℕ) where
  bytes_at : (i n : ℕ) → i + n ≤ length p → take n (drop i (p ++ rest)) ≡ take n (drop i p)
  bytes_at i n fits = ap (take n) (drop-append-le i p rest (omega arith))
      ∙ take-append-le n (drop i p) rest (omega (arith, length-drop i p))

  word_same : (i : ℕ) → i + 4 ≤ length p → word_at (p ++ rest) i ≡ word_at p i
  word_same i fits = word_at-inside (p ++ rest) i (omega (arith, length-append p rest))
      ∙ ap (λ (w : List ℕ). Ok (from_be_bytes w32 w)) (bytes_at i 4 fits)
      ∙ sym (word_at-inside p i fits)

  jentry_same : (i : ℕ) → i + 4 ≤ length p → jentry_at (p ++ rest) i ≡ jentry_at p i
  jentry_same i fits = ap jentry_in (word_same i fits)

  count_same : (tag : ℕ) → 4 ≤ length p → count_under (p ++ rest) tag ≡ count_under p tag
  unfolding count_under
  count_same tag fits = ap (λ (w : Result ℕ Error). header_in w
      >>= λ (h : ℕ × ℕ). Ok (count_if tag h)) (word_same 0 fits)

  part_same : (start n : ℕ) → start + n ≤ length p
      → part_at (p ++ rest) start n ≡ part_at p start n
  unfolding part_at
  part_same start n fits =
      let long : start + n ≤ length (p ++ rest) = omega (arith, length-append p rest) in
      rw (le-leb (start + n) (length (p ++ rest)) long, le-leb (start + n) (length p) fits)
      (ap (λ (k : List ℕ). Ok k) (bytes_at start n fits))

  length_same : (part : ℕ) → 4 + 4 * part + 4 ≤ length p
      → part_length (p ++ rest) part ≡ part_length p part
  unfolding part_length
  length_same part fits = ap length_in (jentry_same (4 + 4 * part) fits)

  before_same : (part : ℕ) → 4 + 4 * part ≤ length p
      → length_before (p ++ rest) part ≡ length_before p part
  before_same zero fits = refl
  before_same (suc part) fits =
      let before = before_same part (omega arith) in
      let one = length_same part (omega arith) in
      cc

  -- The keys of an object of n pairs, and the entry words of all pairs, are within it.
  module _ (n : ℕ) (keys : part_start p n n ≤ length p) where
    start_same : (part : ℕ) → part ≤ 2 * n → part_start (p ++ rest) n part ≡ part_start p n part
    start_same part few = ap (λ (k : ℕ). 4 + 8 * n + k) (before_same part (omega arith))

    key_within : (size pair : ℕ) → pair < n → length_in (jentry_at p (4 + 4 * pair)) ≡ size
        → part_start p n pair + size ≤ length p
    unfolding part_length
    key_within size pair among fits =
        omega (arith, length_before-le p (suc pair) n (omega arith))

    key_same : (size pair : ℕ) → pair < n
        → key_of_size size (p ++ rest) n pair ≡ key_of_size size p n pair
    unfolding key_of_size
    key_same size pair among =
        ap (λ (read : Result JEntry Error).
        key_by size read (part_at (p ++ rest) (part_start (p ++ rest) n pair) size))
        (jentry_same (4 + 4 * pair) (omega arith))
        ∙ key_by-same size (jentry_at p (4 + 4 * pair)) _ _ (λ fits.
        ap (λ (start : ℕ). part_at (p ++ rest) start size) (start_same pair (omega arith))
        ∙ part_same (part_start p n pair) size (key_within size pair among fits))

    passed_same : (answers : List ℕ → Bool → Type 0) (size pair : ℕ) → pair ≤ n
        → PassedBefore answers size p n pair → PassedBefore answers size (p ++ rest) n pair
    passed_same answers size pair few before =
        λ k less. rw (key_same size k (omega arith)) (before k less)

    found_same : (answers : List ℕ → Bool → Type 0) (size : ℕ)
        (r : Result (Option ValueWord) Error) (reads : ℕ) → FindsWord answers size p n r reads
        → FindsWord answers size (p ++ rest) n r reads
    found_same answers size (Ok None) reads h = record {
      none = passed_same answers size n (omega arith) h.none;
      cost = h.cost;
    }
    found_same answers size (Ok (Some value)) reads h =
        let few = h.key.among in
        record {
          pair = h.pair;
          key = record {
            among = few;
            key = h.key.key;
            there = key_same size h.pair few ∙ h.key.there;
            accepted = h.key.accepted;
            earlier = passed_same answers size h.pair (omega arith) h.key.earlier;
          };
          there = jentry_same (4 + 4 * (n + h.pair)) (omega arith) ∙ h.there;
          begins = h.begins ∙ sym (start_same (n + h.pair) (omega arith));
          cost = h.cost;
        }
    found_same answers size (Err e) reads h = record {
      pair = h.pair;
      among = h.among;
      earlier = passed_same answers size h.pair (omega (arith, h.among)) h.earlier;
      unread = key_same size h.pair h.among ∙ h.unread;
    }

-- Where all bytes are at hand, nothing follows.
none_follow : (p rest : List ℕ) (len : ℕ) → length p + length rest ≡ len → length p ≡ len
    → p ++ rest ≡ p
none_follow p [] len whole all = append-nil p
none_follow p (x ∷ rest) len whole all = absurd (omega arith)

-- the word of the value that is found, with the closure's results in another form
word_weaker : (answers others : List ℕ → Bool → Type 0)
    (imply : (key : List ℕ) (b : Bool) → answers key b → others key b) (size : ℕ) (b : List ℕ)
    (n : ℕ) (r : Result (Option ValueWord) Error) (reads : ℕ) → FindsWord answers size b n r reads
    → FindsWord others size b n r reads
word_weaker answers others imply size b n (Ok None) reads h = record {
  none = passed_before answers others imply size b n n h.none;
  cost = h.cost;
}
word_weaker answers others imply size b n (Ok (Some value)) reads h = record {
  pair = h.pair;
  key = accepted answers others imply size b n h.pair h.key;
  there = h.there;
  begins = h.begins;
  cost = h.cost;
}
word_weaker answers others imply size b n (Err e) reads h = record {
  pair = h.pair;
  among = h.among;
  earlier = passed_before answers others imply size b n h.pair h.earlier;
  unread = h.unread;
}

-- What is found at hand is found in all bytes.
pub word_found : (answers : List ℕ → Bool → Type 0) (name p rest : List ℕ) (len n : ℕ)
    → ((key : List ℕ) (b : Bool) → answers key b → b ≡ is_name name key)
    → length p + length rest ≡ len → (length p ≡ len) ⊎ (part_start p n n ≤ length p)
    → (r : Result (Option ValueWord) Error) (reads : ℕ) → FindsWord answers (length name) p n r reads
    → FindsWord (λ key answer. answer ≡ is_name name key) (length name) (p ++ rest) n r reads
word_found answers name p rest len n imply whole (inl all) r reads h =
    rw (none_follow p rest len whole all)
    (word_weaker answers (λ key answer. answer ≡ is_name name key) imply (length name) p n r reads h)
word_found answers name p rest len n imply whole (inr keys) r reads h =
    found_same p rest n keys _ (length name) r reads
    (word_weaker answers (λ key answer. answer ≡ is_name name key) imply (length name) p n r reads h)

-- The value of a word that was found is placed by the length of all bytes.
module _ (answers : List ℕ → Bool → Type 0) (size : ℕ) (b : List ℕ) (n : ℕ) where
  pub word_placed : (value : ValueWord) (entry : Entry) (reads : ℕ)
      → FindsWord answers size b n (Ok (Some value)) reads
      → Ok entry ≡ placed_by b value.start value.jentry
      → FindsEntry answers size b n (Ok (Some entry)) reads
  word_placed value entry reads h is =
      let number : n + h.pair ≡ reads - 1 = omega (arith, h.cost) in (
        record {
          pair = h.pair;
          key = h.key;
          there = value_placed b value.start value.jentry entry is n h.pair (sym h.there) h.begins;
          cost = h.cost;
        },
        subst (λ part. IsPlaceOf b n part entry) number
            (placed_part b value.start value.jentry entry is n (n + h.pair) (sym h.there) h.begins),
      )

  pub word_past : (value : ValueWord) (e : Error) (reads : ℕ)
      → FindsWord answers size b n (Ok (Some value)) reads
      → Err e ≡ placed_by b value.start value.jentry
      → FindsEntry answers size b n (Err e) reads
  word_past value e reads h past = value_unread h.pair h.key
      (value_known b n h.pair value.start value.jentry (sym h.there) h.begins _
      (part_past b value.start value.jentry e past))

  -- it is within the bytes where all payloads are
  pub word_within : (value : ValueWord) (e : Error) (reads : ℕ)
      → FindsWord answers size b n (Ok (Some value)) reads → HasParts b n
      → Err e ≡ placed_by b value.start value.jentry → ⊥
  unfolding part_length
  word_within value e reads h all past =
      let fits = (part_fits b n (n + h.pair) all (omega (arith, h.key.among))).0 in
      let long = ap length_in h.there in
      let inside = le-leb (value.start + value.jentry.length) (length b)
      (omega (arith, h.begins)) in
      absurd (let past = rw inside at past in cc)

  pub word_unread : (e : Error) (reads : ℕ) → FindsWord answers size b n (Err e) reads
      → FindsEntry answers size b n (Err e) reads
  word_unread e reads h = key_unread h.pair h.among h.earlier h.unread

-- Whatever ends there are, each time one more of them is at hand.
module _ (len : ℕ) where
  pub next_past : (hand : ℕ) (stops : List ℕ) (end : ℕ) → next_stop hand len stops ≡ Some end
      → (hand < end) × (end ≤ len)
  next_past hand [] end is = absurd cc
  next_past hand (stop ∷ stops) end is =
      by (ltb hand (min stop len)) (ltb-true hand (min stop len)) (next_past hand stops end) is where
        by : (past : Bool) → (past ≡ true → hand < min stop len)
            → (next_stop hand len stops ≡ Some end → (hand < end) × (end ≤ len))
            → (if past then Some (min stop len) else next_stop hand len stops) ≡ Some end
            → (hand < end) × (end ≤ len)
        by true tells later is =
            let same : min stop len ≡ end = cc in
            let more = tells refl in
            (omega arith, omega arith)
        by false tells later is = later is

  pub next_skips : (hand stop : ℕ) (stops : List ℕ) → min stop len ≤ hand
      → next_stop hand len (stop ∷ stops) ≡ next_stop hand len stops
  next_skips hand stop stops held =
      by (ltb hand (min stop len)) (ltb-true hand (min stop len)) where
        by : (past : Bool) → (past ≡ true → hand < min stop len)
            → (if past then Some (min stop len) else next_stop hand len stops)
            ≡ next_stop hand len stops
        by true tells = let more = tells refl in absurd (omega arith)
        by false tells = refl

  -- one end that is needed, or at hand
  pub next_needed : (hand stop : ℕ) (stops : List ℕ) (end : ℕ)
      → Some end ≡ next_stop hand len (stop ∷ [])
      → next_stop hand len (stop ∷ stops) ≡ Some end
  next_needed hand stop stops end is = by (ltb hand (min stop len)) (sym is) where
    by : (past : Bool) → (if past then Some (min stop len) else None) ≡ Some end
        → (if past then Some (min stop len) else next_stop hand len stops) ≡ Some end
    by true is = is
    by false is = absurd cc

  pub at_hand : (hand stop : ℕ) → None ≡ next_stop hand len (stop ∷ []) → min stop len ≤ hand
  at_hand hand stop is =
      by (ltb hand (min stop len)) (ltb-false hand (min stop len)) (sym is) where
        by : (past : Bool) → (past ≡ false → min stop len ≤ hand)
            → (if past then Some (min stop len) else None) ≡ None → min stop len ≤ hand
        by true tells is = absurd cc
        by false tells is = tells refl

  pub next_others : (hand stop : ℕ) (stops : List ℕ) → None ≡ next_stop hand len (stop ∷ [])
      → next_stop hand len (stop ∷ stops) ≡ next_stop hand len stops
  next_others hand stop stops is = next_skips hand stop stops (at_hand hand stop is)

-- a place in all bytes
pub placed_in_all : (p rest : List ℕ) (len : ℕ) → length p + length rest ≡ len → (start : ℕ)
    (jentry : JEntry) → placed_within len start jentry ≡ placed_by (p ++ rest) start jentry
placed_in_all p rest len whole start jentry =
    let long : len ≡ length (p ++ rest) = omega (arith, length-append p rest) in
    ap (λ (n : ℕ). placed_within n start jentry) long

-- the end of the keys, by the entry words that are at hand
pub keys_end : (p : List ℕ) (n end : ℕ) → 4 + 4 * n ≤ length p
    → Ok end ≡ payloads_end p n 4 (4 + 8 * n) → end ≡ part_start p n n
keys_end p n end words is =
    let none : length_before p 0 ≡ 0 = refl in
    let all : 0 + n ≡ n = omega arith in
    let ends = ends_there p n 0 (4 + 8 * n) 4 (4 + 8 * n) (omega arith) (omega arith)
    (omega (arith, none)) in
    let same : end ≡ 4 + 8 * n + length_before p (0 + n) = cc in
    same ∙ ap (λ (k : ℕ). 4 + 8 * n + length_before p k) all

-- the same in all bytes
pub keys_end-same : (p rest : List ℕ) (n : ℕ) → 4 + 8 * n ≤ length p
    → part_start p n n ≡ part_start (p ++ rest) n n
keys_end-same p rest n words =
    ap (λ (k : ℕ). 4 + 8 * n + k) (sym (before_same p rest n (omega arith)))

-- if no more is needed for the keys, they or all bytes are at hand
pub keys_held : (hand len keys : ℕ) → hand ≤ len → min keys len ≤ hand
    → (hand ≡ len) ⊎ (keys ≤ hand)
keys_held hand len keys within held = elim (leb_tells len hand) [
  | inl all ↦ inl (omega (arith, all.1))
  | inr more ↦ inr (omega (arith, more.1))
]

-- A look-up that reads the header, and goes on by the count in it.
module _ (tag : ℕ) (stops : Result (Option ℕ) Error → List ℕ)
    (Finds : Result (Option ℕ) Error → Result (Option Entry) Error → Type 0)
    (p rest : List ℕ) (len : ℕ) (whole : length p + length rest ≡ len) where
  abbrev b : List ℕ
  b = p ++ rest

  abbrev Comes : Option ℕ → Result Progress Error → Type 0
  Comes next result = IsProgress next (Finds (count_under b tag)) result

  all_long : length b ≡ len
  all_long = omega (arith, length-append p rest)

  -- the header is needed
  pub header_first : (end : ℕ) → Some end ≡ next_stop (length p) len (4 ∷ [])
      → Comes (next_stop (length p) (length b) (4 ∷ stops (count_under b tag)))
      (Ok (progress.Needs end))
  header_first end is =
      let next = ap (λ (n : ℕ). next_stop (length p) n (4 ∷ stops (count_under b tag))) all_long
      ∙ next_needed len (length p) 4 (stops (count_under b tag)) end is in
      subst (λ (o : Option ℕ). Comes o (Ok (progress.Needs end))) (sym next) refl

  -- it is at hand
  module _ (header : None ≡ next_stop (length p) len (4 ∷ [])) where
    header_same : count_under b tag ≡ count_under p tag
    header_same = by (leb_tells 4 (length p)) where
      by : ((leb 4 (length p) ≡ true) × (4 ≤ length p))
          ⊎ ((leb 4 (length p) ≡ false) × (length p < 4))
          → count_under b tag ≡ count_under p tag
      by (inl fits) = count_same p rest tag fits.1
      by (inr cut) =
          let held = at_hand len (length p) 4 header in
          ap (λ (x : List ℕ). count_under x tag)
          (none_follow p rest len whole (omega (arith, cut.1)))

    pub header_read : (count : Result (Option ℕ) Error) (result : Result Progress Error)
        → count ≡ count_under p tag
        → IsProgress (next_stop (length p) len (stops count)) (Finds count) result
        → Comes (next_stop (length p) (length b) (4 ∷ stops (count_under b tag))) result
    header_read count result is h =
        let same = header_same ∙ sym is in
        let next = ap (λ (n : ℕ). next_stop (length p) n (4 ∷ stops (count_under b tag))) all_long
        ∙ next_others len (length p) 4 (stops (count_under b tag)) header
        ∙ ap (λ (c : Result (Option ℕ) Error). next_stop (length p) len (stops c)) same in
        subst (λ (o : Option ℕ). Comes o result) (sym next)
        (subst (λ (c : Result (Option ℕ) Error).
        IsProgress (next_stop (length p) len (stops count)) (Finds c) result) (sym same) h)

-- the header is needed
pub header_needed : (name p rest : List ℕ) (len : ℕ) → length p + length rest ≡ len → (end : ℕ)
    → Some end ≡ next_stop (length p) len (4 ∷ [])
    → IsKeyProgress name (p ++ rest) (length p) (Ok (progress.Needs end))
header_needed name p rest len whole end is =
    header_first OBJECT_CONTAINER_TAG (stops_under (p ++ rest)) (FindsUnder name (p ++ rest)) p rest
    len whole end is

-- What is known of the whole where the header is at hand.
module _ (p rest : List ℕ) (len : ℕ) (whole : length p + length rest ≡ len)
    (header : None ≡ next_stop (length p) len (4 ∷ [])) where
  -- the look-up goes on by the count in it
  pub goes_on : (name : List ℕ) (count : Result (Option ℕ) Error) (result : Result Progress Error)
      → count ≡ count_under p OBJECT_CONTAINER_TAG
      → IsProgress (next_stop (length p) len (stops_under (p ++ rest) count))
      (FindsUnder name (p ++ rest) count) result
      → IsKeyProgress name (p ++ rest) (length p) result
  goes_on name count result is h =
      header_read OBJECT_CONTAINER_TAG (stops_under (p ++ rest)) (FindsUnder name (p ++ rest)) p rest
      len whole header count result is h

  -- the entry words or the keys are needed
  pub pairs_needed : (name : List ℕ) (n end : ℕ)
      → Ok (Some n) ≡ count_under p OBJECT_CONTAINER_TAG
      → Some end ≡ next_stop (length p) len ((4 + 8 * n) ∷ part_start (p ++ rest) n n ∷ [])
      → IsKeyProgress name (p ++ rest) (length p) (Ok (progress.Needs end))
  pairs_needed name n end counted is =
      goes_on name (Ok (Some n)) (Ok (progress.Needs end)) counted
      (subst (λ (o : Option ℕ). IsProgress o (FindsUnder name (p ++ rest) (Ok (Some n)))
      (Ok (progress.Needs end))) is refl)

  -- they are at hand
  pub pairs_done : (name : List ℕ) (n : ℕ) (found : Result (Option Entry) Error)
      (result : Result Progress Error) → Ok (Some n) ≡ count_under p OBJECT_CONTAINER_TAG
      → None ≡ next_stop (length p) len ((4 + 8 * n) ∷ part_start (p ++ rest) n n ∷ [])
      → FindsUnder name (p ++ rest) (Ok (Some n)) found → result ≡ progress_of found
      → IsKeyProgress name (p ++ rest) (length p) result
  pairs_done name n found result counted is finds done =
      goes_on name (Ok (Some n)) result counted
      (subst (λ (o : Option ℕ). IsProgress o (FindsUnder name (p ++ rest) (Ok (Some n))) result) is
      (found, (finds, done)))

-- An item of an array: its entry word, and the words before it.
bind_same : {A B : Type 0} (r : Result A Error) (f g : A → Result B Error)
    → ((x : A) → f x ≡ g x) → r >>= f ≡ r >>= g
bind_same (Ok x) f g same = same x
bind_same (Err e) f g same = refl

module _ (p rest : List ℕ) where
  ends_same : (left word start : ℕ) → word + 4 * left ≤ length p
      → payloads_end (p ++ rest) left word start ≡ payloads_end p left word start
  ends_same zero word start fits = refl
  ends_same (suc left) word start fits =
      ap (λ (r : Result JEntry Error). r >>= λ (e : JEntry).
      payloads_end (p ++ rest) left (word + 4) (start + e.length))
      (jentry_same p rest word (omega arith))
      ∙ bind_same (jentry_at p word) _ _
      (λ e. ends_same left (word + 4) (start + e.length) (omega arith))

  -- What is read for the item at hand, and in all bytes.
  pub item_read_same : (len index n : ℕ) → length p + length rest ≡ len
      → (length p ≡ len) ⊎ (8 + 4 * index ≤ length p)
      → item_entry (p ++ rest) index n
      ≡ ((payloads_end p index 4 (4 + 4 * n)) >>= λ (start : ℕ).
      jentry_at p (4 + 4 * index) >>= λ (jentry : JEntry). placed_within len start jentry)
  item_read_same len index n whole (inl all) =
      let long : length p ≡ len = all in
      ap (λ (x : List ℕ). item_entry x index n) (none_follow p rest len whole all)
      ∙ ap (λ (k : ℕ). payloads_end p index 4 (4 + 4 * n) >>= λ (start : ℕ).
      jentry_at p (4 + 4 * index) >>= λ (jentry : JEntry). placed_within k start jentry) long
  item_read_same len index n whole (inr words) =
      let long : length (p ++ rest) ≡ len = omega (arith, length-append p rest) in
      ap (λ (k : ℕ). payloads_end (p ++ rest) index 4 (4 + 4 * n) >>= λ (start : ℕ).
      jentry_at (p ++ rest) (4 + 4 * index) >>= λ (jentry : JEntry).
      placed_within k start jentry) long
      ∙ ap (λ (r : Result ℕ Error). r >>= λ (start : ℕ).
      jentry_at (p ++ rest) (4 + 4 * index) >>= λ (jentry : JEntry).
      placed_within len start jentry) (ends_same index 4 (4 + 4 * n) (omega arith))
      ∙ ap (λ (r : Result JEntry Error). payloads_end p index 4 (4 + 4 * n) >>= λ (start : ℕ).
      r >>= λ (jentry : JEntry). placed_within len start jentry)
      (jentry_same p rest (4 + 4 * index) (omega arith))

-- What the look-up of an item comes to under the header of an array of n.
module _ (b : List ℕ) (index n hand len : ℕ) where
  abbrev Comes_by : Bool → Result Progress Error → Type 0
  Comes_by inside result =
      IsProgress (next_stop hand len (if inside then (8 + 4 * index) ∷ [] else []))
      (λ found. found ≡ (if inside then some_entry (item_entry b index n) else Ok None)) result

  abbrev Comes_to : Result Progress Error → Type 0
  Comes_to result = IsProgress (next_stop hand len (item_stops index (Ok (Some n))))
      (λ found. found ≡ item_below b index (Ok (Some n))) result

  pub item_past : n ≤ index → Comes_to (Ok progress.Absent)
  item_past past =
      subst (λ (inside : Bool). Comes_by inside (Ok progress.Absent)) (sym (le-ltb index n past))
      (Ok None, (refl, refl))

  pub item_needed : index < n → (end : ℕ) → Some end ≡ next_stop hand len ((8 + 4 * index) ∷ [])
      → Comes_to (Ok (progress.Needs end))
  item_needed among end is =
      subst (λ (inside : Bool). Comes_by inside (Ok (progress.Needs end)))
      (sym (lt-ltb index n among))
      (subst (λ (o : Option ℕ). IsProgress o
      (λ found. found ≡ some_entry (item_entry b index n)) (Ok (progress.Needs end))) is refl)

  pub item_done : index < n → None ≡ next_stop hand len ((8 + 4 * index) ∷ [])
      → (read : Result Entry Error) → item_entry b index n ≡ read
      → (result : Result Progress Error) → result ≡ progress_of (some_entry read)
      → Comes_to result
  item_done among is read same result done =
      subst (λ (inside : Bool). Comes_by inside result) (sym (lt-ltb index n among))
      (subst (λ (o : Option ℕ). IsProgress o
      (λ found. found ≡ some_entry (item_entry b index n)) result) is
      (some_entry read, (ap some_entry (sym same), done)))

-- What a look-up finds, with the closure's results in another form.
entry_weaker : (answers others : List ℕ → Bool → Type 0)
    (imply : (key : List ℕ) (b : Bool) → answers key b → others key b) (size : ℕ) (b : List ℕ)
    (n : ℕ) (r : Result (Option Entry) Error) (reads : ℕ)
    → FindsEntry answers size b n r reads → FindsEntry others size b n r reads
entry_weaker answers others imply size b n (Ok None) reads h = record {
  none = passed_before answers others imply size b n n h.none;
  cost = h.cost;
}
entry_weaker answers others imply size b n (Ok (Some entry)) reads h = (
  record {
    pair = h.0.pair;
    key = accepted answers others imply size b n h.0.pair h.0.key;
    there = h.0.there;
    cost = h.0.cost;
  },
  h.1,
)
entry_weaker answers others imply size b n (Err e) reads (key_unread pair among before is) =
    key_unread pair among (passed_before answers others imply size b n pair before) is
entry_weaker answers others imply size b n (Err e) reads (value_unread pair key is) =
    value_unread pair (accepted answers others imply size b n pair key) is

-- What a look-up in any bytes finds, by the header that is read.
module _ (name b : List ℕ) where
  pub found_under : (count : Result (Option ℕ) Error) (found : Result (Option Entry) Error)
      → count ≡ count_under b OBJECT_CONTAINER_TAG → FindsUnder name b count found
      → FindsPlace name b found
  found_under count found is h =
      subst (λ (c : Result (Option ℕ) Error). FindsUnder name b c found) is h

  pub found_among : (answers : List ℕ → Bool → Type 0)
      → ((key : List ℕ) (x : Bool) → answers key x → x ≡ is_name name key)
      → (n reads : ℕ) (found : Result (Option Entry) Error)
      → Ok (Some n) ≡ count_under b OBJECT_CONTAINER_TAG
      → FindsEntry answers (length name) b n found reads → FindsPlace name b found
  found_among answers imply n reads found is h = found_under (Ok (Some n)) found is (
    reads,
    entry_weaker answers (λ key x. x ≡ is_name name key) imply (length name) b n found reads h,
  )

-- What a look-up finds in a document.
pub found_in_document : (name b : List ℕ) (t : Tree) (found : Result (Option Entry) Error)
    → FindsPlace name b found → Doc b t
    → IsOkAnd found (λ (o : Option Entry).
    IsEntryAt (is_name name) (length name) b t (option_map (entry_there b) o))
found_in_document name b t found h doc =
    under (count_under b OBJECT_CONTAINER_TAG) found refl h where
      found_by : (found : Result (Option Entry) Error) (n reads : ℕ)
          → Ok (Some n) ≡ count_under b OBJECT_CONTAINER_TAG
          → FindsEntry (λ key answer. answer ≡ is_name name key) (length name) b n found reads
          → IsOkAnd found (λ (o : Option Entry).
          IsEntryAt (is_name name) (length name) b t (option_map (entry_there b) o))
      found_by (Ok None) n reads counted h = no_entry_by_entries _ (is_name name) (length name)
          (λ key x fits says. says) b n t reads doc counted h
      found_by (Ok (Some entry)) n reads counted h = entry_by_entry _ (is_name name) (length name)
          (λ key x fits says. says) b n t _ reads doc counted h.0
      found_by (Err e) n reads counted h = always_read _ (is_name name) (length name)
          (λ key x fits says. says) b n t e doc counted h

      under : (count : Result (Option ℕ) Error) (found : Result (Option Entry) Error)
          → count ≡ count_under b OBJECT_CONTAINER_TAG → FindsUnder name b count found
          → IsOkAnd found (λ (o : Option Entry).
          IsEntryAt (is_name name) (length name) b t (option_map (entry_there b) o))
      under (Err e) found counted h =
          absurd (let known = count_under-Doc b t OBJECT_CONTAINER_TAG doc in cc)
      under (Ok None) found counted h =
          rw h (no_entry_by_header (is_name name) (length name) b t doc counted)
      under (Ok (Some n)) found counted h = found_by found n h.0 counted h.1

-- How far a look-up comes in a document.
pub document_progress : (name b : List ℕ) (hand : ℕ) (result : Result Progress Error) (t : Tree)
    → IsKeyProgress name b hand result → Doc b t → IsFoundInDocument name b t hand result
document_progress name b hand result t h doc =
    by (next_stop hand (length b) (key_stops b)) (next_past (length b) hand (key_stops b)) h where
      come : (found : Result (Option Entry) Error)
          → IsOkAnd found (λ (o : Option Entry).
          IsEntryAt (is_name name) (length name) b t (option_map (entry_there b) o))
          → IsFoundInDocument name b t hand (progress_of found)
      come (Ok None) h = h
      come (Ok (Some entry)) h = h
      come (Err e) h = h

      by : (next : Option ℕ)
          → ((end : ℕ) → next ≡ Some end → (hand < end) × (end ≤ length b))
          → IsProgress next (FindsUnder name b (count_under b OBJECT_CONTAINER_TAG)) result
          → IsFoundInDocument name b t hand result
      by (Some end) past h = rw h (past end refl)
      by None past h = rw h.1.1 (come h.0 (found_in_document name b t h.0 h.1.0 doc))
