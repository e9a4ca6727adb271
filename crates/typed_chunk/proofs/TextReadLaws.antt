-- The laws of reading texts: what bytes that were read say, and what bytes that were written.
use Rattle.std.proofs.Common.{◌≡◌, ℕ, zero, suc, ◌+◌, ◌-◌, ◌<◌, ◌≤◌, ◌^◌, Bool, true, false, List}
use Rattle.std.proofs.Common.{[], ◌∷◌, ◌++◌, All, Some, None, length, get_or, map, pos, sum}
use Rattle.std.proofs.Common.{take, drop, refl, sym, ap, ap₂, ◌∙◌, arith, append_assoc}
use Rattle.std.proofs.Common.{eq-eqb, inl, inr, le-leb, le-ltb, take-append-drop}
use Rattle.std.specs.List.{concat}
use Rattle.std.specs.Prelude.{◌==◌}
use Rattle.std.proofs.Math.Seq.{drop-append_seam, take-append_seam}
use Rattle.std.proofs.lemmas.Bool.{cases_Bool, cases_lt, eqb-true, false≢true, lt-leb}
use Rattle.std.proofs.lemmas.List.{ext_get_or, length-append, length-map, length-take-le}
use Rattle.std.proofs.lemmas.List.Elements.{All-cons, All-nil}
use Rattle.std.proofs.lemmas.List.Sums.{sum_by-cons}
use Rattle.typed_chunk.specs.Flags.{some_has}
use Rattle.typed_chunk.specs.Frame.{IsFrame, frame, unsigned_word}
use Rattle.typed_chunk.specs.Texts.{beginning, begun, common, measured, tails, text_bytes}
use Rattle.typed_chunk.specs.TextReading.{are_blank, begun_fault, behind_frame, text_ends}
use Rattle.typed_chunk.specs.TextReading.{frame_before, frame_len, offsets_of, rows_fault}
use Rattle.typed_chunk.specs.TextReading.{sum_fault, texts_fault, with_beginning}
use Rattle.typed_chunk.specs.declared.fault.ChunkFault.TheVariants.{NotLongestBeginning}
use Rattle.typed_chunk.specs.declared.fault.ChunkFault.TheVariants.{TextOfNoValue, WrongLength}
use Rattle.typed_chunk.proofs.BegunLaws.{concat_of, frame_size, front_same, lengths_of, same_texts}
use Rattle.typed_chunk.proofs.BegunLaws.{sum_lengths}
use Rattle.typed_chunk.proofs.HeadedLaws.{some_not_none}
use Rattle.typed_chunk.proofs.SharedLaws.{all_begin, beginning_is, blank-tails, nothing_shared}
use Rattle.typed_chunk.proofs.SharedLaws.{tails-with, with-tails}
use Rattle.typed_vector.specs.Cells.{rows}
use Rattle.typed_vector.specs.ZoneMap.{set_values}

-- The frame that bytes begin with.
pub front_parts : (size : ℕ) (items rest bytes : List ℕ) → 0 < length items
    → bytes ≡ frame (unsigned_word size) (map pos items) ++ rest
    → IsFrame (unsigned_word size) (map pos items) (frame_before size (length items) bytes)
    × (behind_frame size (length items) bytes ≡ rest)
front_parts size items rest bytes some is =
    let F = frame (unsigned_word size) (map pos items) in
    let long : frame_len size (length items) bytes ≡ length F =
    ap (frame_len size (length items)) is ∙ frame_size size items rest in (
      record {
        some = omega (arith, some, length-map items pos);
        same = ap₂ take long is ∙ take-append_seam F rest;
      },
      ap₂ drop long is ∙ drop-append_seam F rest,
    )

pub front_read : (size count : ℕ) (numbers bytes : List ℕ)
    → IsFrame (unsigned_word size) (map pos numbers) (frame_before size count bytes)
    → bytes ≡ frame (unsigned_word size) (map pos numbers) ++ behind_frame size count bytes
front_read size count numbers bytes are =
    sym (take-append-drop (frame_len size count bytes) bytes)
    ∙ ap (λ (xs : List ℕ). xs ++ behind_frame size count bytes) are.same

-- Sums of lengths.
offsets_at : (lengths : List ℕ) (start k : ℕ) → k ≤ length lengths
    → get_or (start ∷ text_ends start lengths) k 0 ≡ start + sum (take k lengths)
offsets_at lengths start zero low = omega arith
offsets_at [] start (suc k) low = absurd (omega (arith, low))
offsets_at (n ∷ lengths) start (suc k) low =
    let more : sum (n ∷ take k lengths) ≡ n + sum (take k lengths) =
    sum_by-cons (λ x. x) n (take k lengths) in
    omega (arith, offsets_at lengths (start + n) k (omega (arith, low)), more)

length-ends : (lengths : List ℕ) (start : ℕ) → length (text_ends start lengths) ≡ length lengths
length-ends [] start = refl
length-ends (n ∷ lengths) start = ap suc (length-ends lengths (start + n))

pub offsets_are : (offsets lengths : List ℕ) → length offsets ≡ length lengths + 1
    → ((k : ℕ) → k ≤ length lengths → get_or offsets k 0 ≡ sum (take k lengths))
    → offsets ≡ offsets_of lengths
offsets_are offsets lengths many are =
    ext_get_or 0 offsets (offsets_of lengths) (omega (arith, many, length-ends lengths 0))
    (λ k low.
    let within : k ≤ length lengths = omega (arith, low, many) in
    are k within ∙ sym (offsets_at lengths 0 k within ∙ omega arith))

pub sum_refused : (most : ℕ) (lengths : List ℕ) → most < sum lengths
    → sum_fault most lengths ≡ Some WrongLength
sum_refused most lengths high = rw (lt-leb (sum lengths) most high) refl

pub sum_kept : (most : ℕ) (lengths : List ℕ) → sum lengths ≤ most
    → sum_fault most lengths ≡ None
sum_kept most lengths low = rw (le-leb (sum lengths) most low) refl

pub sum_passed : (most : ℕ) (lengths : List ℕ) → sum_fault most lengths ≡ None
    → sum lengths ≤ most
sum_passed most lengths none = elim (cases_lt most (sum lengths)) [
  | inl high ↦ absurd (some_not_none (sym (sum_refused most lengths high) ∙ none))
  | inr low ↦ low
]

-- What rows say that have no fault.
blank_fault : (size : ℕ) (tails : List (List ℕ)) (has : List Bool) → are_blank tails has ≡ false
    → rows_fault size tails has ≡ Some TextOfNoValue
blank_fault size tails has full = rw full refl

shared_fault : (size : ℕ) (tails : List (List ℕ)) (has : List Bool) → are_blank tails has ≡ true
    → (length (common (255 - size) (set_values tails has)) == 0) ≡ false
    → rows_fault size tails has ≡ Some NotLongestBeginning
shared_fault size tails has blank some = rw (blank, some) refl

pub no_length : (xs : List ℕ) → length xs ≡ 0 → xs ≡ []
no_length [] none = refl
no_length (x ∷ xs) none = absurd (omega (arith, none))

pub record AreTails (size : ℕ) (tails : List (List ℕ)) (has : List Bool) : Type 0 where
  pub blank : are_blank tails has ≡ true
  pub least : common (255 - size) (set_values tails has) ≡ []

pub rows_passed : (size : ℕ) (tails : List (List ℕ)) (has : List Bool)
    → rows_fault size tails has ≡ None → AreTails size tails has
rows_passed size tails has none =
    let more = common (255 - size) (set_values tails has) in
    elim (cases_Bool (are_blank tails has)) [
      | inr full ↦ absurd (some_not_none (sym (blank_fault size tails has full) ∙ none))
      | inl blank ↦ elim (cases_Bool (length more == 0)) [
        | inr some ↦
            absurd (some_not_none (sym (shared_fault size tails has blank some) ∙ none))
        | inl empty ↦ record {
          blank = blank;
          least = no_length more (eqb-true (length more) 0 empty);
        }
      ]
    ]

pub rows_kept : (size : ℕ) (tails : List (List ℕ)) (has : List Bool) → are_blank tails has ≡ true
    → common (255 - size) (set_values tails has) ≡ [] → rows_fault size tails has ≡ None
rows_kept size tails has blank least =
    let none : (length (common (255 - size) (set_values tails has)) == 0) ≡ true =
    eq-eqb _ _ (ap length least) in
    rw (blank, none) refl

-- What was read is what is written.
pub begun_read : (start : List ℕ) (has : List Bool) (bytes lengths rest offsets : List ℕ)
    (total : ℕ) → length start ≤ 255 → some_has has ≡ true → length lengths ≡ length has
    → bytes ≡ frame (unsigned_word 4) (map pos lengths) ++ rest → total ≡ sum lengths
    → total ≤ length rest → offsets ≡ offsets_of lengths
    → rows_fault (length start) (rows (take total rest) offsets) has ≡ None
    → length start ∷ (start ++ bytes)
    ≡ text_bytes (with_beginning start (rows (take total rest) offsets) has) has ++ drop total rest
begun_read start has bytes lengths rest offsets total low some many is sums enough are none =
    let part = take total rest in
    let F = frame (unsigned_word 4) (map pos lengths) in
    let texts = rows part offsets in
    let whole = with_beginning start texts has in
    let long : sum lengths ≡ length part =
    omega (arith, sums, length-take-le total rest enough) in
    let sizes : map length texts ≡ lengths =
    ap (λ (os : List ℕ). map length (rows part os)) are ∙ lengths_of part lengths long in
    let joined : concat texts ≡ part =
    ap (λ (os : List ℕ). concat (rows part os)) are ∙ concat_of part lengths long in
    let count : length texts ≡ length has =
    sym (length-map texts length) ∙ ap length sizes ∙ many in
    let p = rows_passed (length start) texts has none in
    let first : beginning whole has ≡ start =
    beginning_is start texts has low count some p.least in
    let written : text_bytes whole has ≡ length start ∷ (start ++ (F ++ part)) =
    ap (λ (s : List ℕ). begun s whole) first
    ∙ ap (λ (ts : List (List ℕ)). length start ∷ (start ++ measured ts))
    (tails-with start texts has count p.blank)
    ∙ ap₂ (λ (ns bs : List ℕ). length start
    ∷ (start ++ (frame (unsigned_word 4) (map pos ns) ++ bs))) sizes joined in
    let apart : start ++ (F ++ rest) ≡ (start ++ (F ++ part)) ++ drop total rest =
    ap (λ (xs : List ℕ). start ++ (F ++ xs)) (sym (take-append-drop total rest))
    ∙ ap (λ (xs : List ℕ). start ++ xs) (sym (append_assoc F part (drop total rest)))
    ∙ sym (append_assoc start (F ++ part) (drop total rest)) in
    ap (λ (xs : List ℕ). length start ∷ (start ++ xs)) is
    ∙ ap (λ (xs : List ℕ). length start ∷ xs) apart
    ∙ ap (λ (xs : List ℕ). xs ++ drop total rest) (sym written)

-- What bytes that were written say of their parts.
pub record BegunParts (start : List ℕ) (texts : List (List ℕ)) (has : List Bool)
    (bytes rest : List ℕ) : Type 0 where
  pub behind : List (List ℕ)
  pub many : length (map length behind) ≡ length has
  pub some : 0 < length (map length behind)
  pub fit : All (λ n. n < 256 ^ 4) (map length behind)
  pub front : bytes ≡ frame (unsigned_word 4) (map pos (map length behind))
      ++ (concat behind ++ rest)
  pub none : rows_fault (length start) behind has ≡ None
  pub whole : with_beginning start behind has ≡ texts

some_rows : (has : List Bool) → some_has has ≡ true → 0 < length has
some_rows [] some = absurd (false≢true some)
some_rows (flag ∷ has) some = omega arith

lengths_low : (texts : List (List ℕ)) (most : ℕ) → length (concat texts) ≤ most → most < 2 ^ 32
    → All (λ n. n < 256 ^ 4) (map length texts)
lengths_low [] most low short = All-nil (λ n. n < 256 ^ 4)
lengths_low (text ∷ texts) most low short =
    let long = length-append text (concat texts) in
    All-cons (λ n. n < 256 ^ 4) (length text) (map length texts)
    (omega (arith, low, short, long)) (lengths_low texts most (omega (arith, low, long)) short)

pub begun_parts : (start : List ℕ) (texts : List (List ℕ)) (has : List Bool)
    (bytes rest : List ℕ) → some_has has ≡ true → length bytes < 2 ^ 32
    → length texts ≡ length has → are_blank texts has ≡ true
    → length start ∷ (start ++ bytes) ≡ text_bytes texts has ++ rest
    → BegunParts start texts has bytes rest
begun_parts start texts has bytes rest some short many blank is =
    let s = beginning texts has in
    let behind = tails (length s) texts in
    let F = frame (unsigned_word 4) (map pos (map length behind)) in
    let long : length start ≡ length s = ap (λ (xs : List ℕ). get_or xs 0 0) is in
    let apart = front_same start s bytes (measured behind ++ rest) long
    (ap (drop 1) is ∙ append_assoc s (measured behind) rest) in
    let front : bytes ≡ F ++ (concat behind ++ rest) =
    apart.1 ∙ append_assoc F (concat behind) rest in
    let count : length behind ≡ length has = length-map texts (drop (length s)) ∙ many in
    record {
      behind = behind;
      many = length-map behind length ∙ count;
      some = omega (arith, length-map behind length, count, some_rows has some);
      fit = lengths_low behind (length bytes)
          (omega (
            arith,
            ap length front,
            length-append F (concat behind ++ rest),
            length-append (concat behind) rest,
          ))
          short;
      front = front;
      none = ap (λ (n : ℕ). rows_fault n behind has) long
          ∙ rows_kept (length s) behind has (blank-tails (length s) texts has blank)
          (nothing_shared texts has many some blank);
      whole = ap (λ (xs : List ℕ). with_beginning xs behind has) apart.0
          ∙ with-tails s texts has many blank (all_begin 255 (set_values texts has));
    }

-- Texts that are read of their lengths and their bytes.
pub record AreRead (texts : List (List ℕ)) (rest lengths behind : List ℕ) : Type 0 where
  pub enough : sum lengths ≤ length behind
  pub same : rows (take (sum lengths) behind) (offsets_of lengths) ≡ texts
  pub left : drop (sum lengths) behind ≡ rest

pub are_read : (texts : List (List ℕ)) (rest lengths behind : List ℕ)
    → lengths ≡ map length texts → behind ≡ concat texts ++ rest
    → AreRead texts rest lengths behind
are_read texts rest lengths behind sizes is =
    let total : sum lengths ≡ length (concat texts) = ap sum sizes ∙ sum_lengths texts in
    let part : take (sum lengths) behind ≡ concat texts =
    ap₂ take total is ∙ take-append_seam (concat texts) rest in
    let long : sum lengths ≡ length (take (sum lengths) behind) = total ∙ sym (ap length part) in
    record {
      enough = omega (arith, total, ap length is, length-append (concat texts) rest);
      same = same_texts (rows (take (sum lengths) behind) (offsets_of lengths)) texts
          (lengths_of (take (sum lengths) behind) lengths long ∙ sizes)
          (concat_of (take (sum lengths) behind) lengths long ∙ part);
      left = ap₂ drop total is ∙ drop-append_seam (concat texts) rest;
    }

-- The beginning that bytes tell, and what is behind it.
pub record TextParts (has : List Bool) (bytes start rest : List ℕ) : Type 0 where
  pub whole : bytes ≡ length start ∷ (start ++ rest)
  pub fault : texts_fault has bytes ≡ begun_fault (length start) has rest

pub text_parts : (has : List Bool) (bytes start rest : List ℕ) (end : ℕ) → 0 < length bytes
    → end ≡ 1 + get_or bytes 0 0 → end ≤ length bytes → start ≡ drop 1 (take end bytes)
    → rest ≡ drop end bytes → TextParts has bytes start rest
text_parts has [] start rest end some is low first behind = absurd (omega (arith, some))
text_parts has (size ∷ bytes) start rest end some is low first behind =
    let next : end ≡ suc size = omega (arith, is) in
    let within : size ≤ length bytes = omega (arith, low, is) in
    let begins : start ≡ take size bytes =
    first ∙ ap (λ (n : ℕ). drop 1 (take n (size ∷ bytes))) next in
    let left : rest ≡ drop size bytes =
    behind ∙ ap (λ (n : ℕ). drop n (size ∷ bytes)) next in
    let long : length start ≡ size = ap length begins ∙ length-take-le size bytes within in
    record {
      whole = ap₂ (λ (n : ℕ) (xs : List ℕ). n ∷ xs) (sym long)
          (sym (ap₂ (λ (xs ys : List ℕ). xs ++ ys) begins left ∙ take-append-drop size bytes));
      fault = rw (le-ltb (length bytes) size within)
          (ap₂ (λ (n : ℕ) (xs : List ℕ). begun_fault n has xs) (sym long) (sym left));
    }
