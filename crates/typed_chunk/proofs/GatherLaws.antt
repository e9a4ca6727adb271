-- The laws of texts that are put one after another.
use Rattle.std.proofs.Common.{◌≡◌, ℕ, ◌+◌, ◌<◌, ◌≤◌, Bool, true, false, List, [], ◌∷◌, ◌++◌, length}
use Rattle.std.proofs.Common.{drop, fold, get_or, map, sum, take, ◌-◌, sym, ap, ap₂, ◌∙◌, arith}
use Rattle.std.specs.List.{concat}
use Rattle.std.proofs.lemmas.List.{length-append, length-take, map-append, take_more}
use Rattle.std.proofs.lemmas.List.Sums.{sum_by-cons}
use Rattle.typed_chunk.specs.Entries.{entries_of, with_entry}
use Rattle.typed_chunk.specs.Texts.{AreSpans}
use Rattle.typed_chunk.specs.TextReading.{offsets_of, text_ends}
use Rattle.typed_chunk.proofs.BegunLaws.{concat_of, lengths_of, same_texts, spans_of, sum_lengths}
use Rattle.typed_chunk.proofs.EntryLaws.{less, more, ordered, same, with_less, with_more}
use Rattle.typed_chunk.proofs.EntryLaws.{with_same}
use Rattle.typed_chunk.proofs.SpanLaws.{concat-push}
use Rattle.typed_vector.specs.Cells.{AreEnds, rows, rows_from}
use Rattle.typed_vector.specs.ZoneMap.{set_values}

-- One more end.
ends_push : (lengths : List ℕ) (start size : ℕ)
    → text_ends start (lengths ++ size ∷ [])
    ≡ text_ends start lengths ++ (start + sum lengths + size) ∷ []
ends_push [] start size = ap (λ (n : ℕ). (n + size) ∷ []) (omega arith)
ends_push (n ∷ lengths) start size =
    let total : sum (n ∷ lengths) ≡ n + sum lengths = sum_by-cons (λ x. x) n lengths in
    ap (λ (ns : List ℕ). (start + n) ∷ ns)
    (ends_push lengths (start + n) size
    ∙ ap (λ (m : ℕ). text_ends (start + n) lengths ++ m ∷ []) (omega (arith, total)))

-- One more text and where it ends.
pub gathered_more : (texts : List (List ℕ)) (bytes new text : List ℕ) (offsets ends : List ℕ)
    (i : ℕ) → i < length texts → bytes ≡ concat (take i texts) → new ≡ bytes ++ text
    → text ≡ get_or texts i [] → offsets ≡ offsets_of (map length (take i texts))
    → ends ≡ offsets ++ length new ∷ []
    → (new ≡ concat (take (i + 1) texts))
    × (ends ≡ offsets_of (map length (take (i + 1) texts)))
gathered_more texts bytes new text offsets ends i low are put is were wrote =
    let front = take i texts in
    let last = get_or texts i [] in
    let longer : take (i + 1) texts ≡ front ++ last ∷ [] = take_more texts i [] low in
    let joined : new ≡ concat front ++ last =
    put ∙ ap₂ (λ (xs ys : List ℕ). xs ++ ys) are is in
    let long : length new ≡ 0 + sum (map length front) + length last =
    omega (arith, ap length joined, length-append (concat front) last, sum_lengths front) in (
      joined ∙ sym (ap concat longer ∙ concat-push front last),
      wrote
          ∙ ap₂ (λ (ns : List ℕ) (n : ℕ). ns ++ n ∷ []) were long
          ∙ ap (λ (ns : List ℕ). 0 ∷ ns) (sym (ends_push (map length front) 0 (length last)))
          ∙ sym (ap (λ (ts : List (List ℕ)). offsets_of (map length ts)) longer
          ∙ ap offsets_of (map-append length front (last ∷ []))),
    )

-- Texts by where they end are the texts.
pub gathered_rows : (texts : List (List ℕ))
    → rows (concat texts) (offsets_of (map length texts)) ≡ texts
gathered_rows texts =
    let sizes = map length texts in
    let total = sum_lengths texts in
    same_texts (rows (concat texts) (offsets_of sizes)) texts
    (lengths_of (concat texts) sizes total)
    (concat_of (concat texts) sizes total)

pub gathered_spans : (texts : List (List ℕ))
    → AreSpans (length (concat texts)) (offsets_of (map length texts))
gathered_spans texts = spans_of (map length texts) 0 (length (concat texts))
    (omega (arith, sum_lengths texts))

-- Entries have no more bytes than the texts of the rows.
with_bytes : (entries : List (List ℕ)) (text : List ℕ)
    → length (concat (with_entry entries text)) ≤ length (concat entries) + length text
with_bytes [] text = omega (arith, length-append text [])
with_bytes (entry ∷ entries) text = elim (ordered entry text) [
  | less is ↦
      omega (
        arith,
        ap (λ (ts : List (List ℕ)). length (concat ts)) (with_less entry text entries is),
        length-append entry (concat (with_entry entries text)),
        length-append entry (concat entries),
        with_bytes entries text,
      )
  | same is ↦
      omega (
        arith,
        ap (λ (ts : List (List ℕ)). length (concat ts)) (with_same entry text entries is),
      )
  | more is ↦
      omega (
        arith,
        ap (λ (ts : List (List ℕ)). length (concat ts)) (with_more entry text entries is),
        length-append text (concat (entry ∷ entries)),
      )
]

fold_bytes : (entries texts : List (List ℕ))
    → length (concat (fold with_entry entries texts))
    ≤ length (concat entries) + length (concat texts)
fold_bytes entries [] = omega arith
fold_bytes entries (text ∷ texts) =
    omega (
      arith,
      fold_bytes (with_entry entries text) texts,
      with_bytes entries text,
      length-append text (concat texts),
    )

set_bytes : (texts : List (List ℕ)) (has : List Bool)
    → length (concat (set_values texts has)) ≤ length (concat texts)
set_bytes [] has = omega arith
set_bytes (text ∷ texts) [] = omega arith
set_bytes (text ∷ texts) (true ∷ has) =
    omega (
      arith,
      set_bytes texts has,
      length-append text (concat texts),
      length-append text (concat (set_values texts has)),
    )
set_bytes (text ∷ texts) (false ∷ has) =
    omega (arith, set_bytes texts has, length-append text (concat texts))

row_bytes : (b : List ℕ) (start : ℕ) (ends : List ℕ) → AreEnds (length b) start ends
    → start + length (concat (rows_from b start ends)) ≤ length b
row_bytes b start [] are = omega (arith, are)
row_bytes b start (end ∷ ends) are =
    let text = take (end - start) (drop start b) in
    omega (
      arith,
      are.0,
      row_bytes b end ends are.1,
      length-append text (concat (rows_from b end ends)),
      length-take (end - start) (drop start b),
    )

span_bytes : (b offsets : List ℕ) → AreSpans (length b) offsets
    → length (concat (rows b offsets)) ≤ length b
span_bytes b [] are = absurd are
span_bytes b (start ∷ ends) are = omega (arith, row_bytes b start ends are)

pub entry_bytes_few : (b offsets : List ℕ) (has : List Bool) → AreSpans (length b) offsets
    → length (concat (entries_of (set_values (rows b offsets) has))) ≤ length b
entry_bytes_few b offsets has are =
    omega (
      arith,
      span_bytes b offsets are,
      set_bytes (rows b offsets) has,
      fold_bytes [] (set_values (rows b offsets) has),
    )
