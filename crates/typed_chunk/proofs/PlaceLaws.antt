-- The laws of entries and of places.
use Rattle.std.proofs.Common.{◌≡◌, ℕ, ◌+◌, ◌<◌, ◌≤◌, Bool, true, false, cond, List, []}
use Rattle.std.proofs.Common.{◌∷◌, ◌++◌, length, get_or, map, drop, refl, sym, ap, ap₂}
use Rattle.std.proofs.Common.{◌∙◌, arith, inl, inr, eq-eqb}
use Rattle.std.specs.List.{list_all, range_with_len}
use Rattle.std.specs.Cmp.Lexicographic.{slice_cmp}
use Rattle.std.specs.Ordering.{is_lt, nat_cmp, ordering_then}
use Rattle.std.specs.Prelude.{◌==◌, ◌||◌, ◌&&◌, None, Some, if◌then◌else◌, nat_lt, not, set}
use Rattle.std.specs.declared.cmp.Ordering.{Ordering}
use Rattle.std.specs.declared.cmp.Ordering.TheVariants.{Equal}
use Rattle.std.proofs.lemmas.Bool.{cases_eq, ne_eqb}
use Rattle.std.proofs.lemmas.Grind.{get_or-set_at}
use Rattle.std.proofs.lemmas.List.{drop_all, drop_more, ext_get_or}
use Rattle.std.proofs.lemmas.List.{get_or-set_other, length-drop, length-map}
use Rattle.std.proofs.lemmas.List.Folds.{list_all-map, list_any-append}
use Rattle.std.proofs.lemmas.List.FromFn.{get_or-map-range_with_len, length-range_with_len}
use Rattle.typed_chunk.specs.Flags.{all_have}
use Rattle.typed_chunk.specs.Places.{all_used, are_zeros, ascend_from, is_used, places_fault}
use Rattle.typed_chunk.specs.Places.{texts_ascend}
use Rattle.typed_chunk.specs.declared.fault.ChunkFault.TheVariants.{EntriesNotAscending}
use Rattle.typed_chunk.specs.declared.fault.ChunkFault.TheVariants.{EntryOfNoRow, NoSuchEntry}
use Rattle.typed_chunk.specs.declared.fault.ChunkFault.TheVariants.{PlaceOfNoValue}
use Rattle.typed_vector.specs.ZoneMap.{set_values}

-- Texts from one on that ascend.
two_more : (texts : List (List ℕ)) (i next : ℕ) → next ≡ i + 1 → next < length texts
    → texts_ascend (drop i texts)
    ≡ (is_lt (slice_cmp nat_cmp (get_or texts i []) (get_or texts next []))
    && texts_ascend (drop next texts))
two_more texts i next is low =
    let here : drop i texts ≡ get_or texts i [] ∷ drop next texts =
    drop_more texts i [] (omega (arith, is, low))
    ∙ ap (λ (n : ℕ). get_or texts i [] ∷ drop n texts) (sym is) in
    let there : drop next texts ≡ get_or texts next [] ∷ drop (next + 1) texts =
    drop_more texts next [] low in
    ap texts_ascend here
    ∙ ap (ascend_from (get_or texts i [])) there
    ∙ ap (λ (b : Bool). is_lt (slice_cmp nat_cmp (get_or texts i []) (get_or texts next [])) && b)
    (sym (ap texts_ascend there))

pub ascend_more : (texts : List (List ℕ)) (i next : ℕ) → next ≡ i + 1 → next < length texts
    → is_lt (slice_cmp nat_cmp (get_or texts i []) (get_or texts next [])) ≡ true
    → texts_ascend (drop i texts) ≡ texts_ascend (drop next texts)
ascend_more texts i next is low less =
    two_more texts i next is low ∙ ap (λ (b : Bool). b && texts_ascend (drop next texts)) less

pub ascend_not : (texts : List (List ℕ)) (i next : ℕ) → next ≡ i + 1 → next < length texts
    → is_lt (slice_cmp nat_cmp (get_or texts i []) (get_or texts next [])) ≡ false
    → texts_ascend (drop i texts) ≡ false
ascend_not texts i next is low other =
    two_more texts i next is low ∙ ap (λ (b : Bool). b && texts_ascend (drop next texts)) other

one_ascends : (texts : List (List ℕ)) → length texts ≤ 1 → texts_ascend texts ≡ true
one_ascends [] low = refl
one_ascends (text ∷ []) low = refl
one_ascends (text ∷ other ∷ texts) low = absurd (omega (arith, low))

pub ascend_end : (texts : List (List ℕ)) (i : ℕ) → length texts ≤ i + 1
    → texts_ascend (drop i texts) ≡ true
ascend_end texts i past =
    one_ascends (drop i texts) (omega (arith, past, length-drop i texts))

-- Places from one on of rows that have no text.
zero_here : (places : List ℕ) (has : List Bool) (i : ℕ) (flag : Bool) → i < length places
    → i < length has → get_or has i false ≡ flag
    → are_zeros (drop i places) (drop i has)
    ≡ are_zeros (get_or places i 0 ∷ drop (i + 1) places) (flag ∷ drop (i + 1) has)
zero_here places has i flag inside within is =
    ap₂ are_zeros (drop_more places i 0 inside)
    (drop_more has i false within ∙ ap (λ (b : Bool). b ∷ drop (i + 1) has) is)

pub zeros_set : (places : List ℕ) (has : List Bool) (i : ℕ) → i < length places
    → i < length has → get_or has i false ≡ true
    → are_zeros (drop i places) (drop i has) ≡ are_zeros (drop (i + 1) places) (drop (i + 1) has)
zeros_set places has i inside within set = zero_here places has i true inside within set

pub zeros_zero : (places : List ℕ) (has : List Bool) (i : ℕ) → i < length places
    → i < length has → get_or has i false ≡ false → get_or places i 0 ≡ 0
    → are_zeros (drop i places) (drop i has) ≡ are_zeros (drop (i + 1) places) (drop (i + 1) has)
zeros_zero places has i inside within unset none =
    zero_here places has i false inside within unset
    ∙ ap (λ (b : Bool). b && are_zeros (drop (i + 1) places) (drop (i + 1) has))
    (eq-eqb (get_or places i 0) 0 none)

pub zeros_not : (places : List ℕ) (has : List Bool) (i : ℕ) → i < length places
    → i < length has → get_or has i false ≡ false → (get_or places i 0 ≡ 0 → ⊥)
    → are_zeros (drop i places) (drop i has) ≡ false
zeros_not places has i inside within unset other =
    zero_here places has i false inside within unset
    ∙ ap (λ (b : Bool). b && are_zeros (drop (i + 1) places) (drop (i + 1) has))
    (ne_eqb (get_or places i 0) 0 other)

no_rows : (places : List ℕ) → are_zeros places [] ≡ true
no_rows [] = refl
no_rows (place ∷ places) = refl

pub zeros_end : (places : List ℕ) (has : List Bool) (i : ℕ) → length has ≤ i
    → are_zeros (drop i places) (drop i has) ≡ true
zeros_end places has i past =
    ap (are_zeros (drop i places)) (drop_all i has past) ∙ no_rows (drop i places)

pub ruleset zero_steps = (zeros_set, zeros_zero, zeros_not, zeros_end)

-- One more place.
or_last : (x y : Bool) → (x || (y || false)) ≡ cond y true x
or_last true true = refl
or_last true false = refl
or_last false true = refl
or_last false false = refl

used_push : (places : List ℕ) (place entry : ℕ)
    → is_used (places ++ place ∷ []) entry ≡ cond (place == entry) true (is_used places entry)
used_push places place entry =
    list_any-append (λ p. p == entry) places (place ∷ [])
    ∙ or_last (is_used places entry) (place == entry)

pub mark_more : (marks : List Bool) (places : List ℕ) (place : ℕ) → place < length marks
    → ((k : ℕ) → k < length marks → get_or marks k false ≡ is_used places k)
    → (k : ℕ) → k < length marks
    → get_or (set marks place true) k false ≡ is_used (places ++ place ∷ []) k
mark_more marks places place inside are k low = elim (cases_eq place k) [
  | inl same ↦
      let back : k ≡ place = sym same in
      get_or-set_at marks place k true false back inside
      ∙ sym (used_push places place k
      ∙ ap (λ (b : Bool). cond b true (is_used places k)) (eq-eqb place k same))
  | inr other ↦
      get_or-set_other marks place k true false (λ e. other (sym e))
      ∙ are k low
      ∙ sym (used_push places place k
      ∙ ap (λ (b : Bool). cond b true (is_used places k)) (ne_eqb place k other))
]

pub marks_all : (marks : List Bool) (places : List ℕ)
    → ((k : ℕ) → k < length marks → get_or marks k false ≡ is_used places k)
    → all_have marks ≡ all_used (length marks) places
marks_all marks places are =
    let n = length marks in
    let long : length (map (is_used places) (range_with_len 0 n)) ≡ n =
    length-map (range_with_len 0 n) (is_used places) ∙ length-range_with_len 0 n in
    let same : marks ≡ map (is_used places) (range_with_len 0 n) =
    ext_get_or false marks (map (is_used places) (range_with_len 0 n)) (sym long)
    (λ k low. are k low
    ∙ sym (get_or-map-range_with_len (is_used places) 0 n k k false low (omega arith))) in
    ap all_have same ∙ list_all-map (λ flag. flag) (is_used places) (range_with_len 0 n)

-- What is behind a beginning ascends as the whole texts do.
same_cmp : (x : ℕ) → nat_cmp x x ≡ Equal
same_cmp x = grind arith

cmp-front : (start text other : List ℕ)
    → slice_cmp nat_cmp (start ++ text) (start ++ other) ≡ slice_cmp nat_cmp text other
cmp-front [] text other = refl
cmp-front (x ∷ start) text other =
    ap (λ (o : Ordering). ordering_then o
    (slice_cmp nat_cmp (start ++ text) (start ++ other))) (same_cmp x)
    ∙ cmp-front start text other

ascend-front : (start before : List ℕ) (texts : List (List ℕ))
    → ascend_from (start ++ before) (map (λ text. start ++ text) texts)
    ≡ ascend_from before texts
ascend-front start before [] = refl
ascend-front start before (text ∷ texts) =
    ap₂ (λ (o : Ordering) (b : Bool). is_lt o && b) (cmp-front start before text)
    (ascend-front start text texts)

pub texts_ascend-front : (start : List ℕ) (texts : List (List ℕ))
    → texts_ascend (map (λ text. start ++ text) texts) ≡ texts_ascend texts
texts_ascend-front start [] = refl
texts_ascend-front start (text ∷ texts) = ascend-front start text texts

-- The cases of a check.
pub check_below : (entries : List (List ℕ)) (places : List ℕ) (has : List Bool) (count : ℕ)
    → length entries ≡ count → texts_ascend entries ≡ true
    → list_all (λ place. nat_lt place count) places ≡ false
    → places_fault entries places has ≡ Some NoSuchEntry
check_below entries places has count many up out =
    let outside : list_all (λ place. nat_lt place (length entries)) places ≡ false =
    ap (λ (n : ℕ). list_all (λ place. nat_lt place n) places) many ∙ out in
    rw (up, outside) refl

pub check_rest : (entries : List (List ℕ)) (places : List ℕ) (has : List Bool) (count : ℕ)
    → length entries ≡ count → texts_ascend entries ≡ true
    → list_all (λ place. nat_lt place count) places ≡ true
    → places_fault entries places has
    ≡ (if not (are_zeros places has) then Some PlaceOfNoValue
    else if not (all_used count (set_values places has)) then Some EntryOfNoRow
    else None)
check_rest entries places has count many up in_count =
    let inside : list_all (λ place. nat_lt place (length entries)) places ≡ true =
    ap (λ (n : ℕ). list_all (λ place. nat_lt place n) places) many ∙ in_count in
    ap (λ (b : Bool).
    if not b then Some EntriesNotAscending
    else if not (list_all (λ place. nat_lt place (length entries)) places) then Some NoSuchEntry
    else if not (are_zeros places has) then Some PlaceOfNoValue
    else if not (all_used (length entries) (set_values places has)) then Some EntryOfNoRow
    else None) up
    ∙ ap (λ (b : Bool).
    if not b then Some NoSuchEntry
    else if not (are_zeros places has) then Some PlaceOfNoValue
    else if not (all_used (length entries) (set_values places has)) then Some EntryOfNoRow
    else None) inside
    ∙ ap (λ (n : ℕ).
    if not (are_zeros places has) then Some PlaceOfNoValue
    else if not (all_used n (set_values places has)) then Some EntryOfNoRow
    else None) many

pub check_zeros : (zeros used : Bool) → zeros ≡ false
    → (if not zeros then Some PlaceOfNoValue
    else if not used then Some EntryOfNoRow
    else None) ≡ Some PlaceOfNoValue
check_zeros zeros used none = rw none refl

pub check_used : (zeros used : Bool) → zeros ≡ true → used ≡ false
    → (if not zeros then Some PlaceOfNoValue
    else if not used then Some EntryOfNoRow
    else None) ≡ Some EntryOfNoRow
check_used zeros used some none = rw (some, none) refl

pub check_passed : (zeros used : Bool) → zeros ≡ true → used ≡ true
    → (if not zeros then Some PlaceOfNoValue
    else if not used then Some EntryOfNoRow
    else None) ≡ None
check_passed zeros used some each = rw (some, each) refl
