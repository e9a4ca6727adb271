-- The laws of the choice between the kinds of a chunk of texts.
use Rattle.std.proofs.Common.{◌≡◌, ℕ, zero, suc, ◌+◌, ◌-◌, ◌<◌, ◌≤◌, Bool, true, false, List, []}
use Rattle.std.proofs.Common.{◌∷◌, ◌++◌, length, get_or, map, pos, sum, replicate, refl, sym, ap}
use Rattle.std.proofs.Common.{◌∙◌, All, ap₂, arith, inl, inr, length-append, subst, ◌^◌}
use Rattle.std.specs.List.{concat}
use Rattle.std.specs.Ordering.{is_eq}
use Rattle.std.specs.declared.cmp.Ordering.{Ordering}
use Rattle.std.specs.declared.cmp.Ordering.TheVariants.{Equal, Greater, Less}
use Rattle.std.specs.Prelude.{◌&&◌, if◌then◌else◌, nat_lt}
use Rattle.std.proofs.lemmas.Bool.{cases_Bool, false≢true, le-leb, lt-leb}
use Rattle.typed_chunk.specs.Dictionary.{dictionary_bytes}
use Rattle.typed_chunk.specs.Digits.{number}
use Rattle.typed_chunk.specs.Entries.{IsDictionaryOf, IsPlaceOf}
use Rattle.typed_chunk.specs.Flags.{some_has}
use Rattle.typed_chunk.specs.Frame.{frame, unsigned_word}
use Rattle.typed_chunk.specs.Packed.{least_width, packed, packed_len}
use Rattle.typed_chunk.specs.TextChunk.{coded_bytes, dictionary_shorter, place_in, places_among}
use Rattle.typed_chunk.specs.TextChunk.{row_entries, text_kind}
use Rattle.typed_chunk.specs.Texts.{beginning, tails, text_bytes}
use Rattle.typed_chunk.proofs.BegunLaws.{sum_lengths}
use Rattle.typed_chunk.proofs.DictionaryLaws.{bytes_of, places_below}
use Rattle.typed_chunk.proofs.DigitLaws.{length-digits}
use Rattle.typed_chunk.proofs.EntryLaws.{Has, cmp_same, fold_has, same_cmp, text_cmp}
use Rattle.typed_chunk.proofs.FoundLaws.{dictionary_from, one_list, set_has, some_entries}
use Rattle.typed_vector.specs.ZoneMap.{set_values}

-- The place of a text among entries that have it.
place_here : (entry text : List ℕ) (entries : List (List ℕ)) → is_eq (text_cmp entry text) ≡ true
    → place_in (entry ∷ entries) text ≡ 0
place_here entry text entries is =
    ap (λ (b : Bool). if b then 0 else suc (place_in entries text)) is

place_behind : (entry text : List ℕ) (entries : List (List ℕ))
    → is_eq (text_cmp entry text) ≡ false
    → place_in (entry ∷ entries) text ≡ suc (place_in entries text)
place_behind entry text entries is =
    ap (λ (b : Bool). if b then 0 else suc (place_in entries text)) is

equal_of : (o : Ordering) → is_eq o ≡ true → o ≡ Equal
equal_of Less is = cc
equal_of Equal is = refl
equal_of Greater is = cc

same_eq : (entry text : List ℕ) → is_eq (text_cmp entry text) ≡ true → entry ≡ text
same_eq entry text is = same_cmp entry text (equal_of (text_cmp entry text) is)

pub place_is : (entries : List (List ℕ)) (text : List ℕ) → Has entries text
    → IsPlaceOf entries text (place_in entries text)
place_is [] text there = absurd there
place_is (entry ∷ entries) text there = elim (cases_Bool (is_eq (text_cmp entry text))) [
  | inl here ↦
      let at = place_here entry text entries here in
      record {
        inside = omega (arith, at);
        same = ap (λ (n : ℕ). get_or (entry ∷ entries) n []) at ∙ same_eq entry text here;
      }
  | inr other ↦ elim there [
    | inl here ↦ absurd (false≢true (sym other ∙ ap is_eq (cmp_same entry text here)))
    | inr behind ↦
        let at = place_behind entry text entries other in
        let rest = place_is entries text behind in
        record {
          inside = omega (arith, at, rest.inside);
          same = ap (λ (n : ℕ). get_or (entry ∷ entries) n []) at ∙ rest.same;
        }
  ]
]

-- The places of rows.
pub length-places : (entries texts : List (List ℕ)) (has : List Bool) → length texts ≡ length has
    → length (places_among entries texts has) ≡ length has
length-places entries [] [] many = refl
length-places entries [] (flag ∷ has) many = absurd (omega (arith, many))
length-places entries (text ∷ texts) [] many = absurd (omega (arith, many))
length-places entries (text ∷ texts) (true ∷ has) many =
    ap suc (length-places entries texts has (omega (arith, many)))
length-places entries (text ∷ texts) (false ∷ has) many =
    ap suc (length-places entries texts has (omega (arith, many)))

place_set : (entries texts : List (List ℕ)) (has : List Bool) (i : ℕ) → length texts ≡ length has
    → i < length has → get_or has i false ≡ true
    → get_or (places_among entries texts has) i 0 ≡ place_in entries (get_or texts i [])
place_set entries texts [] i many low set = absurd (omega (arith, low))
place_set entries [] (flag ∷ has) i many low set = absurd (omega (arith, many))
place_set entries (text ∷ texts) (true ∷ has) zero many low set = refl
place_set entries (text ∷ texts) (false ∷ has) zero many low set = cc
place_set entries (text ∷ texts) (true ∷ has) (suc i) many low set =
    place_set entries texts has i (omega (arith, many)) (omega (arith, low)) set
place_set entries (text ∷ texts) (false ∷ has) (suc i) many low set =
    place_set entries texts has i (omega (arith, many)) (omega (arith, low)) set

place_unset : (entries texts : List (List ℕ)) (has : List Bool) (i : ℕ)
    → length texts ≡ length has → i < length has → get_or has i false ≡ false
    → get_or (places_among entries texts has) i 0 ≡ 0
place_unset entries texts [] i many low set = absurd (omega (arith, low))
place_unset entries [] (flag ∷ has) i many low set = absurd (omega (arith, many))
place_unset entries (text ∷ texts) (true ∷ has) zero many low set = cc
place_unset entries (text ∷ texts) (false ∷ has) zero many low set = refl
place_unset entries (text ∷ texts) (true ∷ has) (suc i) many low set =
    place_unset entries texts has i (omega (arith, many)) (omega (arith, low)) set
place_unset entries (text ∷ texts) (false ∷ has) (suc i) many low set =
    place_unset entries texts has i (omega (arith, many)) (omega (arith, low)) set

-- They are a dictionary, so each other one is it.
pub row_dictionary : (texts : List (List ℕ)) (has : List Bool) → length texts ≡ length has
    → some_has has ≡ true
    → IsDictionaryOf texts has (row_entries texts has)
    (places_among (row_entries texts has) texts has)
row_dictionary texts has many some =
    let entries = row_entries texts has in
    dictionary_from texts entries (places_among entries texts has) has many
    (length-places entries texts has many) (some_entries texts has many some) refl
    (λ i low set.
    subst (λ (n : ℕ). IsPlaceOf entries (get_or texts i []) n)
    (sym (place_set entries texts has i many low set))
    (place_is entries (get_or texts i [])
    (fold_has [] (set_values texts has) (get_or texts i []) (set_has texts has i many low set))))
    (λ i low unset. place_unset entries texts has i many low unset)

pub dictionary_is : (texts entries : List (List ℕ)) (places : List ℕ) (has : List Bool)
    → length texts ≡ length has → some_has has ≡ true → IsDictionaryOf texts has entries places
    → (entries ≡ row_entries texts has)
    × (places ≡ places_among (row_entries texts has) texts has)
dictionary_is texts entries places has many some is =
    one_list texts (row_entries texts has) entries
    (places_among (row_entries texts has) texts has) places has
    (row_dictionary texts has many some) is

-- How many bytes texts take.
pub texts_long : (texts : List (List ℕ)) (has : List Bool) (start lengths : List ℕ)
    → start ≡ beginning texts has → lengths ≡ map length (tails (length start) texts)
    → 1 + length start + length (frame (unsigned_word 4) (map pos lengths)) + sum lengths
    ≡ length (text_bytes texts has)
texts_long texts has start lengths is are =
    let ts = tails (length start) texts in
    let bytes = frame (unsigned_word 4) (map pos (map length ts)) in
    let same : text_bytes texts has ≡ length start ∷ (start ++ (bytes ++ concat ts)) =
    ap (λ (s : List ℕ). length s ∷ (s ++ (frame (unsigned_word 4)
    (map pos (map length (tails (length s) texts)))
    ++ concat (tails (length s) texts)))) (sym is) in
    omega (
      arith,
      ap length same,
      length-append start (bytes ++ concat ts),
      length-append bytes (concat ts),
      sum_lengths ts,
      ap sum are,
      ap (λ (ns : List ℕ). length (frame (unsigned_word 4) (map pos ns))) are,
    )

-- How many bytes a dictionary takes.
pub dictionary_long : (entries : List (List ℕ)) (codes : List ℕ) (all : List Bool)
    (count width size places : ℕ) → length entries ≡ count → all ≡ replicate count true
    → width ≡ least_width (count - 1) → size ≡ length (text_bytes entries all)
    → places ≡ packed_len width (length codes)
    → 1 + size + places ≡ length (dictionary_bytes entries codes)
dictionary_long entries codes all count width size places many are is long wide =
    let bytes = text_bytes entries all in
    omega (
      arith,
      ap length (bytes_of entries codes all count width many are is),
      length-append bytes (packed width codes),
      length-digits 256 (packed_len width (length codes)) (number (2 ^ width) codes),
      long,
      wide,
    )

-- The cases of the choice.
pub never_shorter : (texts : List (List ℕ)) (has : List Bool)
    → 256 < length (row_entries texts has) → dictionary_shorter texts has ≡ false
never_shorter texts has many =
    ap (λ (b : Bool). b && nat_lt (length (coded_bytes texts has)) (length (text_bytes texts has)))
    (lt-leb (length (row_entries texts has)) 256 many)

pub shorter_as : (texts entries : List (List ℕ)) (places : List ℕ) (has : List Bool) (one two : ℕ)
    → length texts ≡ length has → some_has has ≡ true → IsDictionaryOf texts has entries places
    → length entries ≤ 256 → one ≡ length (dictionary_bytes entries places)
    → two ≡ length (text_bytes texts has) → nat_lt one two ≡ dictionary_shorter texts has
shorter_as texts entries places has one two many some is most first second =
    let same = dictionary_is texts entries places has many some is in
    let coded : one ≡ length (coded_bytes texts has) =
    first ∙ ap₂ (λ (es : List (List ℕ)) (ps : List ℕ). length (dictionary_bytes es ps))
    same.0 same.1 in
    let few : length (row_entries texts has) ≤ 256 = omega (arith, most, ap length same.0) in
    ap₂ nat_lt coded second
    ∙ sym (ap (λ (b : Bool).
    b && nat_lt (length (coded_bytes texts has)) (length (text_bytes texts has)))
    (le-leb (length (row_entries texts has)) 256 few))

pub coded_kind : (texts entries : List (List ℕ)) (places : List ℕ) (has : List Bool)
    → length texts ≡ length has → some_has has ≡ true → IsDictionaryOf texts has entries places
    → dictionary_shorter texts has ≡ true
    → 2 ∷ dictionary_bytes entries places ≡ text_kind texts has
coded_kind texts entries places has many some is shorter =
    let same = dictionary_is texts entries places has many some is in
    ap₂ (λ (es : List (List ℕ)) (ps : List ℕ). 2 ∷ dictionary_bytes es ps) same.0 same.1
    ∙ sym (ap (λ (b : Bool).
    if b then 2 ∷ coded_bytes texts has else 0 ∷ text_bytes texts has) shorter)

-- What the places of a dictionary are.
pub places_inside : (texts entries : List (List ℕ)) (places : List ℕ) (has : List Bool)
    → IsDictionaryOf texts has entries places → All (λ place. place < length entries) places
places_inside texts entries places has is = places_below entries places has is.form

pub some_places : (texts entries : List (List ℕ)) (places : List ℕ) (has : List Bool)
    → length texts ≡ length has → some_has has ≡ true → IsDictionaryOf texts has entries places
    → 0 < length entries
some_places texts entries places has many some is =
    let same = dictionary_is texts entries places has many some is in
    omega (arith, ap length same.0, some_entries texts has many some)
