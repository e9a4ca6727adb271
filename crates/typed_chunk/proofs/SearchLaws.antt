-- The laws of a search among ascending texts.
use Rattle.std.proofs.Common.{◌≡◌, ℕ, zero, suc, ◌<◌, ◌≤◌, true, false, List, [], ◌∷◌, length}
use Rattle.std.proofs.Common.{get_or, map, refl, sym, ap, ◌∙◌, add-one, arith, inl, inr}
use Rattle.std.specs.Borrow.{Bor}
use Rattle.std.specs.Cmp.Lexicographic.{slice_cmp}
use Rattle.std.specs.List.{Contains, insert}
use Rattle.std.specs.List.Sorted.{IsNonDecreasingBy}
use Rattle.std.specs.Ordering.{is_lt, nat_cmp, ordering_index}
use Rattle.std.specs.declared.cmp.Ordering.TheVariants.{Equal, Greater, Less}
use Rattle.std.proofs.lemmas.Bool.{cases_lt}
use Rattle.std.proofs.lemmas.Cmp.{nat_list_cmp_total}
use Rattle.std.proofs.lemmas.List.{get_or-map, length-map}
use Rattle.std.proofs.lemmas.List.Sorted.{searchable_from_sorted}
use Rattle.typed_chunk.specs.Entries.{IsPlaceOf, with_entry}
use Rattle.typed_chunk.specs.Places.{texts_ascend}
use Rattle.typed_chunk.proofs.EntryLaws.{Has, cmp_back, cmp_same, from_low, same_cmp}
use Rattle.typed_chunk.proofs.EntryLaws.{tail_ascends, text_cmp}
use Rattle.typed_chunk.proofs.EntryLaws.{with_less, with_more, with_there}

-- The texts that references are to.
abbrev pub texts_of : List (Bor (List ℕ)) → List (List ℕ)
texts_of entries = map (λ entry. entry.now) entries

sorted_at : (entries : List (Bor (List ℕ))) (k : ℕ) (d : Bor (List ℕ))
    → texts_ascend (texts_of entries) ≡ true → suc k < length entries
    → is_lt (text_cmp (get_or entries (suc k) d).now (get_or entries k d).now) ≡ false
sorted_at [] k d up low = absurd (omega (arith, low))
sorted_at (entry ∷ []) k d up low = absurd (omega (arith, low))
sorted_at (entry ∷ next ∷ entries) zero d up low =
    ap is_lt (cmp_back entry.now next.now Less
    (from_low entry.now next.now (texts_of entries) up))
sorted_at (entry ∷ next ∷ entries) (suc k) d up low =
    sorted_at (next ∷ entries) k d
    (tail_ascends entry.now (next.now ∷ texts_of entries) up) (omega (arith, low))

pub searchable : (entries : List (Bor (List ℕ))) (text : List ℕ)
    → texts_ascend (texts_of entries) ≡ true
    → IsNonDecreasingBy (λ entry. ordering_index (slice_cmp nat_cmp entry.now text)) entries
searchable entries text up =
    searchable_from_sorted nat_list_cmp_total (λ (entry : Bor (List ℕ)). entry.now) entries text
    (λ k d _ low. rw add-one (sorted_at entries k d up (omega (arith, low))))

-- A text that was found.
pub has_at : (entries : List (Bor (List ℕ))) (k : ℕ) (text : List ℕ) → k < length entries
    → ((d : Bor (List ℕ)) → text_cmp (get_or entries k d).now text ≡ Equal)
    → Has (texts_of entries) text
has_at [] k text low is = absurd (omega (arith, low))
has_at (entry ∷ entries) zero text low is = inl (same_cmp entry.now text (is entry))
has_at (entry ∷ entries) (suc k) text low is =
    inr (has_at entries k text (omega (arith, low)) is)

-- A text that was not found, and is put where the search ended.
pub put_there : (entries : List (Bor (List ℕ))) (k : ℕ) (text : Bor (List ℕ))
    → k ≤ length entries
    → ((j : ℕ) (d : Bor (List ℕ)) → j < k → text_cmp (get_or entries j d).now text.now ≡ Less)
    → ((j : ℕ) (d : Bor (List ℕ)) → k ≤ j → j < length entries
    → text_cmp (get_or entries j d).now text.now ≡ Greater)
    → texts_of (insert entries k text) ≡ with_entry (texts_of entries) text.now
put_there [] zero text low below above = refl
put_there [] (suc k) text low below above = absurd (omega (arith, low))
put_there (entry ∷ entries) zero text low below above =
    sym (with_more entry.now text.now (texts_of entries)
    (above zero entry (omega arith) (omega arith)))
put_there (entry ∷ entries) (suc k) text low below above =
    ap (λ (ts : List (List ℕ)). entry.now ∷ ts)
    (put_there entries k text (omega (arith, low))
    (λ j d under. below (suc j) d (omega (arith, under)))
    (λ j d over under. above (suc j) d (omega (arith, over)) (omega (arith, under))))
    ∙ sym (with_less entry.now text.now (texts_of entries)
    (below zero entry (omega arith)))

-- What a search in a slice of the entries says.
pub found_there : (entries slice : List (Bor (List ℕ))) (k : ℕ) (text : List ℕ)
    → slice ≡ entries → texts_ascend (texts_of entries) ≡ true → k < length slice
    → ((d : Bor (List ℕ)) → text_cmp (get_or slice k d).now text ≡ Equal)
    → texts_of entries ≡ with_entry (texts_of entries) text
found_there entries slice k text is up low at =
    let up_there : texts_ascend (texts_of slice) ≡ true =
    ap (λ (es : List (Bor (List ℕ))). texts_ascend (texts_of es)) is ∙ up in
    ap texts_of (sym is)
    ∙ sym (with_there (texts_of slice) text up_there (has_at slice k text low at))
    ∙ ap (λ (es : List (Bor (List ℕ))). with_entry (texts_of es) text) is

pub searchable_there : (entries slice : List (Bor (List ℕ))) (text : List ℕ)
    → slice ≡ entries → texts_ascend (texts_of entries) ≡ true
    → IsNonDecreasingBy (λ entry. ordering_index (slice_cmp nat_cmp entry.now text)) slice
searchable_there entries slice text is up =
    searchable slice text (ap (λ (es : List (Bor (List ℕ))). texts_ascend (texts_of es)) is ∙ up)

pub put_here : (entries slice new : List (Bor (List ℕ))) (k : ℕ) (text : Bor (List ℕ))
    → slice ≡ entries → new ≡ insert entries k text → k ≤ length slice
    → ((j : ℕ) (d : Bor (List ℕ)) → j < k → text_cmp (get_or slice j d).now text.now ≡ Less)
    → ((j : ℕ) (d : Bor (List ℕ)) → k ≤ j → j < length slice
    → text_cmp (get_or slice j d).now text.now ≡ Greater)
    → texts_of new ≡ with_entry (texts_of entries) text.now
put_here entries slice new k text is put low below above =
    ap texts_of put
    ∙ ap (λ (es : List (Bor (List ℕ))). texts_of (insert es k text)) (sym is)
    ∙ put_there slice k text low below above
    ∙ ap (λ (es : List (Bor (List ℕ))). with_entry (texts_of es) text.now) is

-- The place of a text that is there.
text_is : (entries : List (Bor (List ℕ))) (k : ℕ) (d : Bor (List ℕ)) (text : List ℕ)
    → k < length entries → get_or (texts_of entries) k text ≡ (get_or entries k d).now
text_is entries k d text low = get_or-map (λ entry. entry.now) entries k d text low

pub place_found : (entries : List (Bor (List ℕ))) (k : ℕ) (text : Bor (List ℕ))
    → k < length entries
    → ((d : Bor (List ℕ)) → text_cmp (get_or entries k d).now text.now ≡ Equal)
    → IsPlaceOf (texts_of entries) text.now k
place_found entries k text low at = record {
  inside = omega (arith, low, length-map entries (λ entry. entry.now));
  same = text_is entries k text [] low ∙ same_cmp (get_or entries k text).now text.now (at text);
}

pub never_missed : (entries : List (Bor (List ℕ))) (k : ℕ) (text : Bor (List ℕ))
    → ((j : ℕ) (d : Bor (List ℕ)) → j < k → text_cmp (get_or entries j d).now text.now ≡ Less)
    → ((j : ℕ) (d : Bor (List ℕ)) → k ≤ j → j < length entries
    → text_cmp (get_or entries j d).now text.now ≡ Greater)
    → Contains (texts_of entries) text.now → ⊥
never_missed entries k text below above there =
    let j = there.0 in
    let low : j < length entries =
    omega (arith, there.1, length-map entries (λ entry. entry.now)) in
    let is : text_cmp (get_or entries j text).now text.now ≡ Equal =
    cmp_same (get_or entries j text).now text.now
    (sym (text_is entries j text text.now low) ∙ there.2) in
    elim (cases_lt j k) [
      | inl before ↦ let e : Equal ≡ Less = sym is ∙ below j text before in cc
      | inr behind ↦ let e : Equal ≡ Greater = sym is ∙ above j text behind low in cc
    ]
