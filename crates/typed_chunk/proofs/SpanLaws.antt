-- The laws of texts that follow one another.
use Rattle.std.proofs.Common.{◌≡◌, ℕ, suc, ◌+◌, ◌-◌, ◌^◌, ◌<◌, ◌≤◌, List, [], ◌∷◌, ◌++◌, All}
use Rattle.std.proofs.Common.{length, get_or, map, min, take, drop, add-one, append_assoc, inl, inr}
use Rattle.std.proofs.Common.{sym, ap, ◌∙◌, arith, take-take}
use Rattle.std.specs.List.{concat}
use Rattle.std.proofs.Math.Seq.{take-append_seam}
use Rattle.std.proofs.lemmas.Bool.{cases_lt}
use Rattle.std.proofs.lemmas.List.{append-nil, drop_all, get_or-map, length-append}
use Rattle.std.proofs.lemmas.List.{length-drop, length-map, length-take, take_more, take_rest}
use Rattle.std.proofs.lemmas.List.Elements.{All-cons, All-nil}
use Rattle.typed_vector.specs.Cells.{rows, rows_from}
use Rattle.typed_vector.proofs.BinaryLaws.{IsBetween}
use Rattle.typed_vector.proofs.CellLaws.{IsRowAt, length-rows_from, row_from-at}
use Rattle.typed_chunk.specs.Texts.{AreSpans, tails}

-- The text at an index lies between two offsets, which are inside the bytes.
pub span_at : (b offsets : List ℕ) (i : ℕ) → AreSpans (length b) offsets → i + 1 < length offsets
    → IsBetween b offsets i
span_at b [] i spans low = absurd spans
span_at b (start ∷ ends) i spans low =
    let offsets = start ∷ ends in
    let at : IsRowAt b offsets i = row_from-at b start ends i spans (omega (arith, low)) in
    let next : get_or offsets (suc i) 0 ≡ get_or offsets (i + 1) 0 =
    ap (λ (n : ℕ). get_or offsets n 0) (sym (add-one i)) in
    record {
      low = omega (arith, at.low, next);
      high = omega (arith, at.high, next);
      row = ap (λ (n : ℕ). take (n - get_or offsets i 0) (drop (get_or offsets i 0) b)) (sym next)
          ∙ sym at.row;
    }

pub many_spans : (b offsets : List ℕ) → AreSpans (length b) offsets
    → length (rows b offsets) + 1 ≡ length offsets
many_spans b [] spans = absurd spans
many_spans b (start ∷ ends) spans = omega (arith, length-rows_from b start ends)

pub many_tails : (size : ℕ) (b offsets : List ℕ) → AreSpans (length b) offsets
    → length (tails size (rows b offsets)) + 1 ≡ length offsets
many_tails size b offsets spans =
    ap (λ (n : ℕ). n + 1) (length-map (rows b offsets) (drop size)) ∙ many_spans b offsets spans

-- What is behind so many bytes.
drop_min : (size : ℕ) (text : List ℕ) → drop (min size (length text)) text ≡ drop size text
drop_min size text = elim (cases_lt size (length text)) [
  | inl low ↦
      let same : min size (length text) ≡ size = omega (arith, low) in
      ap (λ (n : ℕ). drop n text) same
  | inr high ↦
      let all : length text ≤ min size (length text) = omega (arith, high) in
      drop_all (min size (length text)) text all ∙ sym (drop_all size text high)
]

pub tail_is : (size skipped i : ℕ) (texts : List (List ℕ)) (text : List ℕ) → i < length texts
    → text ≡ get_or texts i [] → skipped ≡ min size (length text)
    → take (length text - skipped) (drop skipped text) ≡ get_or (tails size texts) i []
tail_is size skipped i texts text low is few =
    take_rest text skipped ∙ ap (λ (n : ℕ). drop n text) few ∙ drop_min size text
    ∙ ap (drop size) is ∙ sym (get_or-map (drop size) texts i [] [] low)

-- No tail is longer than all texts.
lengths_from : (b : List ℕ) (size start : ℕ) (ends : List ℕ) → length b < 2 ^ 32
    → All (λ n. n < 256 ^ 4) (map length (tails size (rows_from b start ends)))
lengths_from b size start [] short = All-nil (λ n. n < 256 ^ 4)
lengths_from b size start (end ∷ ends) short =
    let text = take (end - start) (drop start b) in
    All-cons (λ n. n < 256 ^ 4) (length (drop size text))
    (map length (tails size (rows_from b end ends)))
    (omega (
      arith,
      short,
      length-drop size text,
      length-take (end - start) (drop start b),
      length-drop start b,
    ))
    (lengths_from b size end ends short)

pub lengths_fit : (b : List ℕ) (size : ℕ) (offsets : List ℕ) → length b < 2 ^ 32
    → All (λ n. n < 256 ^ 4) (map length (tails size (rows b offsets)))
lengths_fit b size [] short = All-nil (λ n. n < 256 ^ 4)
lengths_fit b size (start ∷ ends) short = lengths_from b size start ends short

-- One more text.
pub concat-push : (texts : List (List ℕ)) (text : List ℕ)
    → concat (texts ++ text ∷ []) ≡ concat texts ++ text
concat-push [] text = append-nil text
concat-push (first ∷ texts) text =
    ap (λ (xs : List ℕ). first ++ xs) (concat-push texts text)
    ∙ sym (append_assoc first (concat texts) text)

pub concat_more : (old before new tail : List ℕ) (texts : List (List ℕ)) (i : ℕ)
    → i < length texts → before ≡ old ++ concat (take i texts) → tail ≡ get_or texts i []
    → new ≡ before ++ tail → new ≡ old ++ concat (take (i + 1) texts)
concat_more old before new tail texts i low is there more =
    more
    ∙ ap (λ (xs : List ℕ). xs ++ tail) is
    ∙ append_assoc old (concat (take i texts)) tail
    ∙ ap (λ (xs : List ℕ). old ++ xs)
    (ap (λ (xs : List ℕ). concat (take i texts) ++ xs) there
    ∙ sym (ap concat (take_more texts i [] low)
    ∙ concat-push (take i texts) (get_or texts i [])))

-- What was there is kept in front.
pub kept_front : (old new more : List ℕ) → new ≡ old ++ more → take (length old) new ≡ old
kept_front old new more is = ap (take (length old)) is ∙ take-append_seam old more

pub kept_behind : (old between new more : List ℕ) → between ≡ old ++ more
    → take (length between) new ≡ between → take (length old) new ≡ old
kept_behind old between new more is kept =
    let short : length old ≤ length between = omega (arith, ap length is, length-append old more) in
    let part : take (length old) new ≡ take (length old) (take (length between) new) =
    sym (take-take (length old) (length between) new short) in
    part ∙ ap (take (length old)) kept ∙ kept_front old between more is

-- Three parts behind what was there.
pub three_more : (old one two new head middle last : List ℕ) → one ≡ old ++ head
    → two ≡ one ++ middle → new ≡ two ++ last → new ≡ old ++ (head ++ (middle ++ last))
three_more old one two new head middle last first second third =
    third
    ∙ ap (λ (xs : List ℕ). xs ++ last)
    (second ∙ ap (λ (xs : List ℕ). xs ++ middle) first ∙ append_assoc old head middle)
    ∙ append_assoc old (head ++ middle) last
    ∙ ap (λ (xs : List ℕ). old ++ xs) (append_assoc head middle last)
