-- The laws of the dictionary that rows' texts have: it is found, and there is one.
use Rattle.std.proofs.Common.{◌≡◌, ℕ, zero, suc, ◌<◌, Bool, true, false, List, [], ◌∷◌}
use Rattle.std.proofs.Common.{None, Some, length, get_or, drop, refl, sym, ap, ap₂, ◌∙◌}
use Rattle.std.proofs.Common.{arith, eq-eqb, inl, inr, subst}
use Rattle.std.specs.List.{Contains, list_all, range_with_len}
use Rattle.std.specs.Prelude.{◌==◌, ◌||◌, if◌then◌else◌, nat_lt, not}
use Rattle.std.proofs.lemmas.Bool.{cases_Bool, eqb-true, lt-ltb, ltb-true}
use Rattle.std.proofs.lemmas.List.{get_or_default}
use Rattle.std.proofs.lemmas.List.FromFn.{get_or-range_with_len, length-range_with_len}
use Rattle.std.proofs.lemmas.List.Sums.{AllPass-from_list_all, list_all-from_AllPass}
use Rattle.typed_chunk.specs.Entries.{IsDictionaryOf, IsPlaceOf, entries_of, texts_at}
use Rattle.typed_chunk.specs.Flags.{some_has}
use Rattle.typed_chunk.specs.Places.{all_used, are_zeros, is_used, places_fault, texts_ascend}
use Rattle.typed_chunk.specs.declared.fault.ChunkFault.{ChunkFault}
use Rattle.typed_chunk.proofs.EntryLaws.{Has, all_above, ascend-fold, back_true, both, fold_has}
use Rattle.typed_chunk.proofs.EntryLaws.{fold_longer, fold_only, front_true, not_itself}
use Rattle.typed_chunk.proofs.EntryLaws.{same_entries, tail_ascends, text_cmp}
use Rattle.typed_chunk.proofs.HeadedLaws.{some_not_none}
use Rattle.typed_chunk.proofs.PlaceLaws.{check_passed, check_rest}
use Rattle.typed_vector.specs.ZoneMap.{set_values}

-- Texts at an index.
pub has_get : (texts : List (List ℕ)) (k : ℕ) → k < length texts → Has texts (get_or texts k [])
has_get [] k low = absurd (omega (arith, low))
has_get (text ∷ texts) zero low = inl refl
has_get (text ∷ texts) (suc k) low = inr (has_get texts k (omega (arith, low)))

pub contains_has : (texts : List (List ℕ)) (text : List ℕ) → Has texts text → Contains texts text
contains_has [] text there = absurd there
contains_has (first ∷ texts) text there = elim there [
  | inl here ↦ (0, omega arith, here)
  | inr behind ↦
      let at = contains_has texts text behind in
      (suc at.0, omega (arith, at.1), at.2)
]

pub same_index : (texts : List (List ℕ)) (i j : ℕ) → texts_ascend texts ≡ true
    → i < length texts → j < length texts → get_or texts i [] ≡ get_or texts j [] → i ≡ j
same_index [] i j up low lower same = absurd (omega (arith, low))
same_index (text ∷ texts) zero zero up low lower same = refl
same_index (text ∷ texts) zero (suc j) up low lower same =
    absurd (not_itself text (ap (text_cmp text) same
    ∙ all_above text texts (get_or texts j []) up (has_get texts j (omega (arith, lower)))))
same_index (text ∷ texts) (suc i) zero up low lower same =
    absurd (not_itself text (ap (text_cmp text) (sym same)
    ∙ all_above text texts (get_or texts i []) up (has_get texts i (omega (arith, low)))))
same_index (text ∷ texts) (suc i) (suc j) up low lower same =
    ap suc (same_index texts i j (tail_ascends text texts up) (omega (arith, low))
    (omega (arith, lower)) same)

-- Texts of rows that have one.
pub set_has : (texts : List (List ℕ)) (has : List Bool) (i : ℕ) → length texts ≡ length has
    → i < length has → get_or has i false ≡ true → Has (set_values texts has) (get_or texts i [])
set_has texts [] i many low set = absurd (omega (arith, low))
set_has [] (flag ∷ has) i many low set = absurd (omega (arith, many))
set_has (text ∷ texts) (true ∷ has) zero many low set = inl refl
set_has (text ∷ texts) (false ∷ has) zero many low set = cc
set_has (text ∷ texts) (true ∷ has) (suc i) many low set =
    inr (set_has texts has i (omega (arith, many)) (omega (arith, low)) set)
set_has (text ∷ texts) (false ∷ has) (suc i) many low set =
    set_has texts has i (omega (arith, many)) (omega (arith, low)) set

some_entry : (texts : List (List ℕ)) → 0 < length texts → 0 < length (entries_of texts)
some_entry [] some = absurd (omega (arith, some))
some_entry (text ∷ texts) some = omega (arith, fold_longer (text ∷ []) texts)

some_text : (texts : List (List ℕ)) (has : List Bool) → length texts ≡ length has
    → some_has has ≡ true → 0 < length (set_values texts has)
some_text texts [] many some = cc
some_text [] (flag ∷ has) many some = absurd (omega (arith, many))
some_text (text ∷ texts) (true ∷ has) many some = omega arith
some_text (text ∷ texts) (false ∷ has) many some =
    some_text texts has (omega (arith, many)) some

pub some_entries : (texts : List (List ℕ)) (has : List Bool) → length texts ≡ length has
    → some_has has ≡ true → 0 < length (entries_of (set_values texts has))
some_entries texts has many some =
    some_entry (set_values texts has) (some_text texts has many some)

pub entry_there : (texts entries : List (List ℕ)) (has : List Bool) (i : ℕ)
    → entries ≡ entries_of (set_values texts has) → length texts ≡ length has → i < length has
    → get_or has i false ≡ true → Contains entries (get_or texts i [])
entry_there texts entries has i is many low set =
    contains_has entries (get_or texts i [])
    (subst (λ (es : List (List ℕ)). Has es (get_or texts i [])) (sym is)
    (fold_has [] (set_values texts has) (get_or texts i []) (set_has texts has i many low set)))

-- The places that an entry has.
or_here : (a b : Bool) → a ≡ true → (a || b) ≡ true
or_here true b is = refl
or_here false b is = cc

or_behind : (a b : Bool) → b ≡ true → (a || b) ≡ true
or_behind true b is = refl
or_behind false b is = is

or_left : (a b : Bool) → (a || b) ≡ true → a ≡ false → b ≡ true
or_left true b is none = cc
or_left false b is none = is

pub below_count : (entries : List (List ℕ)) (place : ℕ) (places : List ℕ)
    → list_all (λ place. nat_lt place (length entries)) (place ∷ places) ≡ true
    → place < length entries
below_count entries place places low =
    ltb-true place (length entries) (front_true (nat_lt place (length entries))
    (list_all (λ place. nat_lt place (length entries)) places) low)

pub below_rest : (entries : List (List ℕ)) (place : ℕ) (places : List ℕ)
    → list_all (λ place. nat_lt place (length entries)) (place ∷ places) ≡ true
    → list_all (λ place. nat_lt place (length entries)) places ≡ true
below_rest entries place places low =
    back_true (nat_lt place (length entries))
    (list_all (λ place. nat_lt place (length entries)) places) low

used_place : (entries : List (List ℕ)) (places : List ℕ) (k : ℕ) → texts_ascend entries ≡ true
    → k < length entries → list_all (λ place. nat_lt place (length entries)) places ≡ true
    → Has (texts_at entries places) (get_or entries k []) → is_used places k ≡ true
used_place entries [] k up low inside there = absurd there
used_place entries (place ∷ places) k up low inside there = elim there [
  | inl here ↦
      or_here (place == k) (is_used places k)
      (eq-eqb place k (same_index entries place k up (below_count entries place places inside) low
      here))
  | inr behind ↦
      or_behind (place == k) (is_used places k)
      (used_place entries places k up low (below_rest entries place places inside) behind)
]

placed_has : (entries : List (List ℕ)) (places : List ℕ) (k : ℕ) → is_used places k ≡ true
    → Has (texts_at entries places) (get_or entries k [])
placed_has entries [] k used = cc
placed_has entries (place ∷ places) k used = elim (cases_Bool (place == k)) [
  | inl here ↦ inl (ap (λ (n : ℕ). get_or entries n []) (eqb-true place k here))
  | inr other ↦
      inr (placed_has entries places k (or_left (place == k) (is_used places k) used other))
]

at_has : (entries : List (List ℕ)) (places : List ℕ) (text : List ℕ)
    → list_all (λ place. nat_lt place (length entries)) places ≡ true
    → Has (texts_at entries places) text → Has entries text
at_has entries [] text inside there = absurd there
at_has entries (place ∷ places) text inside there = elim there [
  | inl here ↦
      subst (λ (t : List ℕ). Has entries t) here
      (has_get entries place (below_count entries place places inside))
  | inr behind ↦ at_has entries places text (below_rest entries place places inside) behind
]

pub inside_set : (entries : List (List ℕ)) (places : List ℕ) (has : List Bool)
    → list_all (λ place. nat_lt place (length entries)) places ≡ true
    → list_all (λ place. nat_lt place (length entries)) (set_values places has) ≡ true
inside_set entries [] has inside = refl
inside_set entries (place ∷ places) [] inside = refl
inside_set entries (place ∷ places) (true ∷ has) inside =
    both (nat_lt place (length entries))
    (list_all (λ place. nat_lt place (length entries)) (set_values places has))
    (front_true (nat_lt place (length entries))
    (list_all (λ place. nat_lt place (length entries)) places) inside)
    (inside_set entries places has (below_rest entries place places inside))
inside_set entries (place ∷ places) (false ∷ has) inside =
    inside_set entries places has (below_rest entries place places inside)

-- What was written for each row, as one.
zeros_from : (places : List ℕ) (has : List Bool) → length places ≡ length has
    → ((i : ℕ) → i < length has → get_or has i false ≡ false → get_or places i 0 ≡ 0)
    → are_zeros places has ≡ true
zeros_from [] has many unset = refl
zeros_from (place ∷ places) [] many unset = refl
zeros_from (place ∷ places) (true ∷ has) many unset =
    zeros_from places has (omega (arith, many))
    (λ i low none. unset (suc i) (omega (arith, low)) none)
zeros_from (place ∷ places) (false ∷ has) many unset =
    both (place == 0) (are_zeros places has) (eq-eqb place 0 (unset 0 (omega arith) refl))
    (zeros_from places has (omega (arith, many))
    (λ i low none. unset (suc i) (omega (arith, low)) none))

inside_from : (entries : List (List ℕ)) (places : List ℕ) (has : List Bool)
    → 0 < length entries → length places ≡ length has
    → ((i : ℕ) → i < length has → get_or has i false ≡ true
    → get_or places i 0 < length entries)
    → ((i : ℕ) → i < length has → get_or has i false ≡ false → get_or places i 0 ≡ 0)
    → list_all (λ place. nat_lt place (length entries)) places ≡ true
inside_from entries [] has some many set unset = refl
inside_from entries (place ∷ places) [] some many set unset = absurd (omega (arith, many))
inside_from entries (place ∷ places) (true ∷ has) some many set unset =
    both (nat_lt place (length entries))
    (list_all (λ place. nat_lt place (length entries)) places)
    (lt-ltb place (length entries) (set 0 (omega arith) refl))
    (inside_from entries places has some (omega (arith, many))
    (λ i low is. set (suc i) (omega (arith, low)) is)
    (λ i low none. unset (suc i) (omega (arith, low)) none))
inside_from entries (place ∷ places) (false ∷ has) some many set unset =
    both (nat_lt place (length entries))
    (list_all (λ place. nat_lt place (length entries)) places)
    (lt-ltb place (length entries) (omega (arith, some, unset 0 (omega arith) refl)))
    (inside_from entries places has some (omega (arith, many))
    (λ i low is. set (suc i) (omega (arith, low)) is)
    (λ i low none. unset (suc i) (omega (arith, low)) none))

texts_from : (entries texts : List (List ℕ)) (places : List ℕ) (has : List Bool)
    → length texts ≡ length has → length places ≡ length has
    → ((i : ℕ) → i < length has → get_or has i false ≡ true
    → get_or entries (get_or places i 0) [] ≡ get_or texts i [])
    → set_values texts has ≡ texts_at entries (set_values places has)
texts_from entries [] [] has long many set = refl
texts_from entries [] (place ∷ places) [] long many set = refl
texts_from entries [] (place ∷ places) (flag ∷ has) long many set = absurd (omega (arith, long))
texts_from entries (text ∷ texts) [] [] long many set = refl
texts_from entries (text ∷ texts) [] (flag ∷ has) long many set = absurd (omega (arith, many))
texts_from entries (text ∷ texts) (place ∷ places) [] long many set = refl
texts_from entries (text ∷ texts) (place ∷ places) (true ∷ has) long many set =
    ap₂ (λ (t : List ℕ) (ts : List (List ℕ)). t ∷ ts) (sym (set 0 (omega arith) refl))
    (texts_from entries texts places has (omega (arith, long)) (omega (arith, many))
    (λ i low is. set (suc i) (omega (arith, low)) is))
texts_from entries (text ∷ texts) (place ∷ places) (false ∷ has) long many set =
    texts_from entries texts places has (omega (arith, long)) (omega (arith, many))
    (λ i low is. set (suc i) (omega (arith, low)) is)

at_range : (n k d : ℕ) → k < n → get_or (range_with_len 0 n) k d ≡ k
at_range n k d low = omega (arith, get_or-range_with_len 0 n k d low)

used_from : (entries : List (List ℕ)) (places : List ℕ)
    → ((k : ℕ) → k < length entries → is_used places k ≡ true)
    → all_used (length entries) places ≡ true
used_from entries places each =
    let n = length entries in
    list_all-from_AllPass (is_used places) (range_with_len 0 n)
    (λ k d low.
    let inside : k < n = omega (arith, low, length-range_with_len 0 n) in
    ap (is_used places) (at_range n k d inside) ∙ each k inside)

pub dictionary_from : (texts entries : List (List ℕ)) (places : List ℕ) (has : List Bool)
    → length texts ≡ length has → length places ≡ length has → 0 < length entries
    → entries ≡ entries_of (set_values texts has)
    → ((i : ℕ) → i < length has → get_or has i false ≡ true
    → IsPlaceOf entries (get_or texts i []) (get_or places i 0))
    → ((i : ℕ) → i < length has → get_or has i false ≡ false → get_or places i 0 ≡ 0)
    → IsDictionaryOf texts has entries places
dictionary_from texts entries places has long many some is set unset =
    let n = length entries in
    let up : texts_ascend entries ≡ true =
    ap texts_ascend is ∙ ascend-fold [] (set_values texts has) refl in
    let inside = inside_from entries places has some many (λ i low here. (set i low here).inside)
    unset in
    let zeros = zeros_from places has many unset in
    let each = texts_from entries texts places has long many
    (λ i low here. (set i low here).same) in
    let used : all_used n (set_values places has) ≡ true =
    used_from entries (set_values places has) (λ k low.
    let there : Has (set_values texts has) (get_or entries k []) =
    elim (fold_only [] (set_values texts has) (get_or entries k [])
    (subst (λ (es : List (List ℕ)). Has es (get_or entries k [])) is (has_get entries k low))) [
      | inl none ↦ absurd none
      | inr among ↦ among
    ] in
    used_place entries (set_values places has) k up low (inside_set entries places has inside)
    (subst (λ (ts : List (List ℕ)). Has ts (get_or entries k [])) each there)) in
    record {
      many = many;
      each = each;
      form = check_rest entries places has n refl up inside
          ∙ check_passed (are_zeros places has) (all_used n (set_values places has)) zeros used;
    }

-- What is right with places that have no fault.
pub record ArePlaces (entries : List (List ℕ)) (places : List ℕ) (has : List Bool)
    : Type 0 where
  pub up : texts_ascend entries ≡ true
  pub inside : list_all (λ place. nat_lt place (length entries)) places ≡ true
  pub zeros : are_zeros places has ≡ true
  pub used : all_used (length entries) (set_values places has) ≡ true

no_faults : (one two three four : ChunkFault) (a b c d : Bool)
    → (if not a then Some one else if not b then Some two else if not c then Some three
    else if not d then Some four else None) ≡ None
    → (a ≡ true) × (b ≡ true) × (c ≡ true) × (d ≡ true)
no_faults one two three four false b c d none = absurd (some_not_none none)
no_faults one two three four true false c d none = absurd (some_not_none none)
no_faults one two three four true true false d none = absurd (some_not_none none)
no_faults one two three four true true true false none = absurd (some_not_none none)
no_faults one two three four true true true true none = (refl, refl, refl, refl)

pub are_places : (entries : List (List ℕ)) (places : List ℕ) (has : List Bool)
    → places_fault entries places has ≡ None → ArePlaces entries places has
are_places entries places has none =
    let all = no_faults _ _ _ _ (texts_ascend entries)
    (list_all (λ place. nat_lt place (length entries)) places) (are_zeros places has)
    (all_used (length entries) (set_values places has)) none in
    record { up = all.0; inside = all.1; zeros = all.2; used = all.3 }

has_from : (entries : List (List ℕ)) (places : List ℕ) (has : List Bool) (others : List (List ℕ))
    (text : List ℕ) → ArePlaces entries places has
    → ((k : ℕ) → k < length entries → Has others (get_or entries k [])) → Has entries text
    → Has others text
has_from entries places has others text are each there =
    let at = contains_has entries text there in
    let is : get_or entries at.0 [] ≡ text = get_or_default entries at.0 [] text at.1 ∙ at.2 in
    subst (λ (t : List ℕ). Has others t) is (each at.0 at.1)

pub one_dictionary : (texts entries : List (List ℕ)) (places : List ℕ) (has : List Bool)
    → IsDictionaryOf texts has entries places → entries ≡ entries_of (set_values texts has)
one_dictionary texts entries places has is =
    let are = are_places entries places has is.form in
    let set = set_values texts has in
    let ps = set_values places has in
    let n = length entries in
    let placed : (k : ℕ) → k < n → Has set (get_or entries k []) =
    λ k low.
    let used : is_used ps k ≡ true =
    ap (is_used ps) (sym (at_range n k 0 low))
    ∙ AllPass-from_list_all (is_used ps) (range_with_len 0 n) are.used k 0
    (omega (arith, low, length-range_with_len 0 n)) in
    subst (λ (ts : List (List ℕ)). Has ts (get_or entries k [])) (sym is.each)
    (placed_has entries ps k used) in
    same_entries entries (entries_of set) are.up (ascend-fold [] set refl)
    (λ text there. fold_has [] set text (has_from entries places has set text are placed there))
    (λ text there. elim (fold_only [] set text there) [
      | inl none ↦ absurd none
      | inr among ↦
          at_has entries ps text (inside_set entries places has are.inside)
          (subst (λ (ts : List (List ℕ)). Has ts text) is.each among)
    ])

-- One list of places.
same_places : (entries : List (List ℕ)) (one two : List ℕ) (has : List Bool)
    → texts_ascend entries ≡ true → length one ≡ length has → length two ≡ length has
    → list_all (λ place. nat_lt place (length entries)) one ≡ true
    → list_all (λ place. nat_lt place (length entries)) two ≡ true
    → are_zeros one has ≡ true → are_zeros two has ≡ true
    → texts_at entries (set_values one has) ≡ texts_at entries (set_values two has) → one ≡ two
same_places entries [] [] has up first second in_one in_two z_one z_two is = refl
same_places entries [] (q ∷ two) has up first second in_one in_two z_one z_two is =
    absurd (omega (arith, first, second))
same_places entries (p ∷ one) [] has up first second in_one in_two z_one z_two is =
    absurd (omega (arith, first, second))
same_places entries (p ∷ one) (q ∷ two) [] up first second in_one in_two z_one z_two is =
    absurd (omega (arith, first))
same_places entries (p ∷ one) (q ∷ two) (true ∷ has) up first second in_one in_two z_one z_two is =
    ap₂ (λ (n : ℕ) (ns : List ℕ). n ∷ ns)
    (same_index entries p q up (below_count entries p one in_one) (below_count entries q two in_two)
    (ap (λ (ts : List (List ℕ)). get_or ts 0 []) is))
    (same_places entries one two has up (omega (arith, first)) (omega (arith, second))
    (below_rest entries p one in_one) (below_rest entries q two in_two) z_one z_two
    (ap (drop 1) is))
same_places entries (p ∷ one) (q ∷ two) (false ∷ has) up first second in_one in_two z_one z_two is =
    ap₂ (λ (n : ℕ) (ns : List ℕ). n ∷ ns)
    (eqb-true p 0 (front_true (p == 0) (are_zeros one has) z_one)
    ∙ sym (eqb-true q 0 (front_true (q == 0) (are_zeros two has) z_two)))
    (same_places entries one two has up (omega (arith, first)) (omega (arith, second))
    (below_rest entries p one in_one) (below_rest entries q two in_two)
    (back_true (p == 0) (are_zeros one has) z_one)
    (back_true (q == 0) (are_zeros two has) z_two) is)

pub one_list : (texts entries others : List (List ℕ)) (places items : List ℕ) (has : List Bool)
    → IsDictionaryOf texts has entries places → IsDictionaryOf texts has others items
    → (others ≡ entries) × (items ≡ places)
one_list texts entries others places items has is other =
    let same : others ≡ entries =
    one_dictionary texts others items has other
    ∙ sym (one_dictionary texts entries places has is) in
    let are = are_places entries places has is.form in
    let those = are_places entries items has
    (subst (λ (es : List (List ℕ)). places_fault es items has ≡ None) same other.form) in (
      same,
      same_places entries items places has are.up other.many is.many those.inside are.inside
          those.zeros are.zeros
          (ap (λ (es : List (List ℕ)). texts_at es (set_values items has)) (sym same)
          ∙ sym other.each ∙ is.each),
    )
