-- The laws of reading a dictionary.
use Rattle.std.proofs.Common.{◌≡◌, ℕ, zero, suc, ◌-◌, ◌^◌, Bool, true, List, [], ◌∷◌, ◌++◌}
use Rattle.std.proofs.Common.{Option, Some, None, length, map, replicate, refl, sym, ap}
use Rattle.std.proofs.Common.{ap₂, ◌∙◌}
use Rattle.std.specs.List.{list_all}
use Rattle.std.specs.Prelude.{if◌then◌else◌, nat_lt, not}
use Rattle.std.proofs.lemmas.Bool.{cases_Bool, ltb-true}
use Rattle.std.proofs.lemmas.List.{length-map}
use Rattle.std.proofs.lemmas.List.Sums.{AllPass-from_list_all}
use Rattle.std.proofs.Common.{All, arith, drop, get_or, inl, inr, subst, ◌<◌, ◌≤◌}
use Rattle.typed_chunk.specs.Dictionary.{dictionary_bytes, dictionary_fault, entry_bytes}
use Rattle.typed_chunk.specs.Digits.{digits, number}
use Rattle.typed_chunk.specs.Headed.{first_fault}
use Rattle.typed_chunk.specs.Packed.{FitWidth, ArePacked, codes_fault, least_width, packed}
use Rattle.typed_chunk.specs.Places.{all_used, are_zeros, places_fault, texts_ascend}
use Rattle.typed_chunk.specs.Texts.{text_bytes}
use Rattle.typed_chunk.specs.TextReading.{are_blank, with_beginning}
use Rattle.typed_chunk.specs.declared.fault.ChunkFault.{ChunkFault}
use Rattle.typed_chunk.specs.declared.fault.ChunkFault.TheVariants.{EntriesNotAscending}
use Rattle.typed_chunk.specs.declared.fault.ChunkFault.TheVariants.{EntryOfNoRow, NoSuchEntry}
use Rattle.typed_chunk.specs.declared.fault.ChunkFault.TheVariants.{PlaceOfNoValue}
use Rattle.typed_chunk.proofs.HeadedLaws.{least_fits, some_not_none}
use Rattle.typed_chunk.proofs.PlaceLaws.{check_below, texts_ascend-front}
use Rattle.typed_chunk.proofs.UnpackedLaws.{written}
use Rattle.typed_vector.specs.ZoneMap.{set_values}

-- Entries all have a text.
pub all_blank : (texts : List (List ℕ)) (count : ℕ) → are_blank texts (replicate count true) ≡ true
all_blank [] count = refl
all_blank (text ∷ texts) zero = refl
all_blank (text ∷ texts) (suc count) = all_blank texts count

pub all_with : (start : List ℕ) (tails : List (List ℕ))
    → with_beginning start tails (replicate (length tails) true)
    ≡ map (λ tail. start ++ tail) tails
all_with start [] = refl
all_with start (tail ∷ tails) =
    ap (λ (ts : List (List ℕ)). (start ++ tail) ∷ ts) (all_with start tails)

-- What is wrong with places does not ask how entries begin.
pub places_front : (start : List ℕ) (tails : List (List ℕ)) (places : List ℕ) (has : List Bool)
    (count : ℕ) → length tails ≡ count
    → places_fault tails places has
    ≡ places_fault (with_beginning start tails (replicate count true)) places has
places_front start tails places has count many =
    let whole : with_beginning start tails (replicate count true)
    ≡ map (λ tail. start ++ tail) tails =
    ap (λ (n : ℕ). with_beginning start tails (replicate n true)) (sym many)
    ∙ all_with start tails in
    let same : texts_ascend tails
    ≡ texts_ascend (with_beginning start tails (replicate count true)) =
    sym (ap texts_ascend whole ∙ texts_ascend-front start tails) in
    let long : length tails ≡ length (with_beginning start tails (replicate count true)) =
    sym (ap length whole ∙ length-map tails (λ tail. start ++ tail)) in
    ap₂ (λ (b : Bool) (n : ℕ).
    if not b then Some EntriesNotAscending
    else if not (list_all (λ place. nat_lt place n) places) then Some NoSuchEntry
    else if not (are_zeros places has) then Some PlaceOfNoValue
    else if not (all_used n (set_values places has)) then Some EntryOfNoRow
    else None) same long

-- The fault of bytes behind entries.
pub codes_left : (entries : List (List ℕ)) (has : List Bool) (rest behind : List ℕ)
    (width count many : ℕ) (fault : ChunkFault) → length entries ≡ count
    → width ≡ least_width (count - 1) → many ≡ length has → behind ≡ rest
    → Some fault ≡ codes_fault width many behind → Some fault ≡ dictionary_fault entries has rest
codes_left entries has rest behind width count many fault size is rows same refused =
    let w = least_width (length entries - 1) in
    let wide : width ≡ w = is ∙ ap (λ (n : ℕ). least_width (n - 1)) (sym size) in
    ap (λ (f : Option ChunkFault). first_fault f (places_fault entries
    (digits (2 ^ w) (length has) (number 256 rest)) has))
    (refused ∙ ap₂ (λ (x y : ℕ). codes_fault x y behind) wide rows
    ∙ ap (codes_fault w (length has)) same)

pub places_left : (entries tails : List (List ℕ)) (start : List ℕ) (has : List Bool)
    (rest behind places : List ℕ) (width count many : ℕ) (fault : Option ChunkFault)
    → length entries ≡ count → length tails ≡ count → width ≡ least_width (count - 1)
    → many ≡ length has → length places ≡ many → behind ≡ rest
    → with_beginning start tails (replicate count true) ≡ entries
    → None ≡ codes_fault width many behind → ArePacked width places behind
    → fault ≡ places_fault tails places has → fault ≡ dictionary_fault entries has rest
places_left entries tails start has rest behind places width count many fault size ends is rows
    long same whole none packed at =
    let w = least_width (length entries - 1) in
    let wide : width ≡ w = is ∙ ap (λ (n : ℕ). least_width (n - 1)) (sym size) in
    let read : places ≡ digits (2 ^ w) (length has) (number 256 rest) =
    sym (written width places behind packed).back
    ∙ ap₂ (λ (x y : ℕ). digits (2 ^ x) y (number 256 behind)) wide (long ∙ rows)
    ∙ ap (λ (bs : List ℕ). digits (2 ^ w) (length has) (number 256 bs)) same in
    at ∙ places_front start tails places has count ends
    ∙ ap₂ (λ (es : List (List ℕ)) (ps : List ℕ). places_fault es ps has) whole read
    ∙ ap (λ (f : Option ChunkFault). first_fault f (places_fault entries
    (digits (2 ^ w) (length has) (number 256 rest)) has))
    (none ∙ ap₂ (λ (x y : ℕ). codes_fault x y behind) wide rows
    ∙ ap (codes_fault w (length has)) same)

-- The bytes by the number of entries.
pub bytes_of : (entries : List (List ℕ)) (codes : List ℕ) (all : List Bool) (count width : ℕ)
    → length entries ≡ count → all ≡ replicate count true → width ≡ least_width (count - 1)
    → (count - 1) ∷ (text_bytes entries all ++ packed width codes)
    ≡ dictionary_bytes entries codes
bytes_of entries codes all count width many are is =
    ap₂ (λ (bs : List Bool) (w : ℕ). (count - 1) ∷ (text_bytes entries bs ++ packed w codes)) are is
    ∙ ap (λ (n : ℕ). (n - 1) ∷ (text_bytes entries (replicate n true)
    ++ packed (least_width (n - 1)) codes)) (sym many)

-- Places that are all right are below the number of entries, and fit its width.
pub places_below : (entries : List (List ℕ)) (places : List ℕ) (has : List Bool)
    → places_fault entries places has ≡ None → All (λ place. place < length entries) places
places_below entries places has none =
    let inside = list_all (λ place. nat_lt place (length entries)) places in
    elim (cases_Bool (texts_ascend entries)) [
      | inr down ↦
          let left : places_fault entries places has ≡ Some EntriesNotAscending = rw down refl in
          absurd (some_not_none (sym left ∙ none))
      | inl up ↦ elim (cases_Bool inside) [
        | inr out ↦
            absurd (some_not_none (sym (check_below entries places has (length entries) refl up out)
            ∙ none))
        | inl low ↦ λ k d within.
            ltb-true (get_or places k d) (length entries)
            (AllPass-from_list_all (λ place. nat_lt place (length entries)) places low k d within)
      ]
    ]

pub are_packed : (entries : List (List ℕ)) (places : List ℕ) (has : List Bool)
    (behind : List ℕ) (width count : ℕ) → length entries ≡ count → 0 < count → count ≤ 256
    → width ≡ least_width (count - 1) → places_fault entries places has ≡ None
    → behind ≡ packed (least_width (length entries - 1)) places → ArePacked width places behind
are_packed entries places has behind width count many some few is none same =
    let below = places_below entries places has none in
    let low : count - 1 < 2 ^ 64 = omega (arith, few) in
    let fits = least_fits (count - 1) low in
    let fit : FitWidth (least_width (count - 1)) places =
    λ k d inside. omega (arith, below k d inside, fits.low, many, some) in
    record {
      fit = subst (λ w. FitWidth w places) (sym is) fit;
      same = same ∙ ap (λ (w : ℕ). packed w places)
          (ap (λ (n : ℕ). least_width (n - 1)) many ∙ sym is);
    }

-- A dictionary that was written says where its entries are.
pub entries_behind : (bytes : List ℕ) (entries : List (List ℕ)) (places : List ℕ)
    → bytes ≡ dictionary_bytes entries places
    → drop 1 bytes ≡ entry_bytes entries ++ packed (least_width (length entries - 1)) places
entries_behind bytes entries places is = ap (drop 1) is
