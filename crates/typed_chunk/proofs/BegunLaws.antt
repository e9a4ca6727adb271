-- The laws of reading texts.
use Rattle.std.proofs.Common.{◌≡◌, ℕ, ◌+◌, ◌-◌, ◌<◌, ◌≤◌, ◌^◌, Bool, true, false, List}
use Rattle.std.proofs.Common.{[], ◌∷◌, ◌++◌, length, get_or, map, pos}
use Rattle.std.proofs.Common.{sum, take, drop, refl, sym, ap, ap₂, ◌∙◌, arith}
use Rattle.std.proofs.Common.{take-append-drop}
use Rattle.std.specs.List.{concat}
use Rattle.std.proofs.Math.Seq.{take-append_seam}
use Rattle.std.proofs.lemmas.List.{drop-drop, drop_all, drop_at, drop_more, length-append}
use Rattle.std.proofs.lemmas.List.{length-drop, length-map, length-take-le}
use Rattle.std.proofs.lemmas.List.Sums.{sum_by-cons}
use Rattle.byteorder.specs.Numbers.{length-bytes_high_first}
use Rattle.typed_chunk.specs.Digits.{number}
use Rattle.typed_chunk.specs.Frame.{frame, heights, least_value, unsigned_word}
use Rattle.typed_chunk.specs.Headed.{width_of}
use Rattle.typed_chunk.specs.Packed.{packed, packed_len}
use Rattle.typed_chunk.specs.TextReading.{are_blank, text_ends, frame_len, offsets_of}
use Rattle.typed_chunk.proofs.DigitLaws.{length-digits}
use Rattle.typed_vector.specs.Cells.{AreEnds, rows, rows_from}
use Rattle.std.proofs.Common.{unsigned_abs}

-- Rows that have no text, from one on.
blank_cons : (text : List ℕ) (texts : List (List ℕ)) (has : List Bool) → length text ≡ 0
    → are_blank (text ∷ texts) (false ∷ has) ≡ are_blank texts has
blank_cons [] texts has none = refl
blank_cons (x ∷ text) texts has none = absurd (omega (arith, none))

full_cons : (text : List ℕ) (texts : List (List ℕ)) (has : List Bool) → 0 < length text
    → are_blank (text ∷ texts) (false ∷ has) ≡ false
full_cons [] texts has some = absurd (omega (arith, some))
full_cons (x ∷ text) texts has some = refl

here : (texts : List (List ℕ)) (has : List Bool) (i : ℕ) (flag : Bool) → i < length texts
    → i < length has → get_or has i false ≡ flag
    → are_blank (drop i texts) (drop i has)
    ≡ are_blank (get_or texts i [] ∷ drop (i + 1) texts) (flag ∷ drop (i + 1) has)
here texts has i flag inside within is =
    ap₂ are_blank (drop_more texts i [] inside)
    (drop_more has i false within ∙ ap (λ (b : Bool). b ∷ drop (i + 1) has) is)

pub blank_set : (texts : List (List ℕ)) (has : List Bool) (i : ℕ) → i < length texts
    → i < length has → get_or has i false ≡ true
    → are_blank (drop i texts) (drop i has) ≡ are_blank (drop (i + 1) texts) (drop (i + 1) has)
blank_set texts has i inside within set = here texts has i true inside within set

pub blank_empty : (texts : List (List ℕ)) (has : List Bool) (i : ℕ) → i < length texts
    → i < length has → get_or has i false ≡ false → length (get_or texts i []) ≡ 0
    → are_blank (drop i texts) (drop i has) ≡ are_blank (drop (i + 1) texts) (drop (i + 1) has)
blank_empty texts has i inside within unset none =
    here texts has i false inside within unset
    ∙ blank_cons (get_or texts i []) (drop (i + 1) texts) (drop (i + 1) has) none

pub blank_not : (texts : List (List ℕ)) (has : List Bool) (i : ℕ) → i < length texts
    → i < length has → get_or has i false ≡ false → 0 < length (get_or texts i [])
    → are_blank (drop i texts) (drop i has) ≡ false
blank_not texts has i inside within unset some =
    here texts has i false inside within unset
    ∙ full_cons (get_or texts i []) (drop (i + 1) texts) (drop (i + 1) has) some

no_flags : (texts : List (List ℕ)) → are_blank texts [] ≡ true
no_flags [] = refl
no_flags (text ∷ texts) = refl

pub blank_end : (texts : List (List ℕ)) (has : List Bool) (i : ℕ) → length has ≤ i
    → are_blank (drop i texts) (drop i has) ≡ true
blank_end texts has i past =
    ap (are_blank (drop i texts)) (drop_all i has past) ∙ no_flags (drop i texts)

pub ruleset blank_steps = (blank_set, blank_empty, blank_not, blank_end)

-- Texts by their lengths.
pub spans_of : (lengths : List ℕ) (start size : ℕ) → start + sum lengths ≡ size
    → AreEnds size start (text_ends start lengths)
spans_of [] start size is = omega (arith, is)
spans_of (n ∷ lengths) start size is =
    let more : sum (n ∷ lengths) ≡ n + sum lengths = sum_by-cons (λ x. x) n lengths in
    (omega arith, spans_of lengths (start + n) size (omega (arith, is, more)))

lengths_from : (b lengths : List ℕ) (start : ℕ) → start + sum lengths ≡ length b
    → map length (rows_from b start (text_ends start lengths)) ≡ lengths
lengths_from b [] start is = refl
lengths_from b (n ∷ lengths) start is =
    let more : sum (n ∷ lengths) ≡ n + sum lengths = sum_by-cons (λ x. x) n lengths in
    let size : start + n - start ≡ n = omega arith in
    ap₂ (λ (x : ℕ) (xs : List ℕ). x ∷ xs)
    (ap (λ (k : ℕ). length (take k (drop start b))) size
    ∙ length-take-le n (drop start b) (omega (arith, is, more, length-drop start b)))
    (lengths_from b lengths (start + n) (omega (arith, is, more)))

concat_from : (b lengths : List ℕ) (start : ℕ) → start + sum lengths ≡ length b
    → concat (rows_from b start (text_ends start lengths)) ≡ drop start b
concat_from b [] start is = sym (drop_all start b (omega (arith, is)))
concat_from b (n ∷ lengths) start is =
    let more : sum (n ∷ lengths) ≡ n + sum lengths = sum_by-cons (λ x. x) n lengths in
    let size : start + n - start ≡ n = omega arith in
    ap₂ (λ (xs ys : List ℕ). xs ++ ys) (ap (λ (k : ℕ). take k (drop start b)) size)
    (concat_from b lengths (start + n) (omega (arith, is, more)) ∙ sym (drop-drop n start b))
    ∙ take-append-drop n (drop start b)

pub lengths_of : (b lengths : List ℕ) → sum lengths ≡ length b
    → map length (rows b (offsets_of lengths)) ≡ lengths
lengths_of b lengths is = lengths_from b lengths 0 (omega (arith, is))

pub concat_of : (b lengths : List ℕ) → sum lengths ≡ length b
    → concat (rows b (offsets_of lengths)) ≡ b
concat_of b lengths is = concat_from b lengths 0 (omega (arith, is))

-- Texts of the same lengths that are the same bytes are the same.
pub front_same : (one two behind rest : List ℕ) → length one ≡ length two
    → one ++ behind ≡ two ++ rest → (one ≡ two) × (behind ≡ rest)
front_same one two behind rest long same = (
  sym (take-append_seam one behind) ∙ ap₂ take long same ∙ take-append_seam two rest,
  sym (drop_at one behind (length one) refl) ∙ ap₂ drop long same
      ∙ drop_at two rest (length two) refl,
)

pub same_texts : (one two : List (List ℕ)) → map length one ≡ map length two
    → concat one ≡ concat two → one ≡ two
same_texts [] [] long same = refl
same_texts [] (t ∷ two) long same = absurd (omega (arith, ap length long))
same_texts (t ∷ one) [] long same = absurd (omega (arith, ap length long))
same_texts (t ∷ one) (u ∷ two) long same =
    let first : length t ≡ length u = ap (λ (ns : List ℕ). get_or ns 0 0) long in
    let apart = front_same t u (concat one) (concat two) first same in
    ap₂ (λ (x : List ℕ) (xs : List (List ℕ)). x ∷ xs) apart.0
    (same_texts one two (ap (drop 1) long) apart.1)

pub sum_lengths : (texts : List (List ℕ)) → sum (map length texts) ≡ length (concat texts)
sum_lengths [] = refl
sum_lengths (text ∷ texts) =
    sum_by-cons (λ x. x) (length text) (map length texts)
    ∙ ap (λ (n : ℕ). length text + n) (sum_lengths texts)
    ∙ sym (length-append text (concat texts))

-- The bytes of a frame tell how many they are.
pub frame_size : (size : ℕ) (items rest : List ℕ)
    → frame_len size (length items) (frame (unsigned_word size) (map pos items) ++ rest)
    ≡ length (frame (unsigned_word size) (map pos items))
frame_size size items rest =
    let codes = heights (map pos items) in
    let width = width_of codes in
    let word = unsigned_word size (least_value (map pos items)) in
    let many : length codes ≡ length items = length-map (map pos items) _ ∙ length-map items pos in
    let body : length (packed width codes) ≡ packed_len width (length items) =
    length-digits 256 (packed_len width (length codes)) (number (2 ^ width) codes)
    ∙ ap (packed_len width) many in
    let head : length word ≡ size =
    length-bytes_high_first size (unsigned_abs (least_value (map pos items))) in
    omega (arith, body, head, length-append word (packed width codes))
