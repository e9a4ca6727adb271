-- The laws of texts with their beginning in front.
use Rattle.std.proofs.Common.{◌≡◌, ℕ, zero, suc, ◌+◌, ◌<◌, ◌≤◌, Bool, true, false, List, [], ◌∷◌}
use Rattle.std.proofs.Common.{◌++◌, length, get_or, map, sum, take, refl, sym, ap, ◌∙◌, arith, inl}
use Rattle.std.proofs.Common.{inr}
use Rattle.std.specs.List.{concat}
use Rattle.std.specs.Prelude.{if◌then◌else◌, set}
use Rattle.std.proofs.lemmas.Bool.{cases_lt}
use Rattle.std.proofs.lemmas.Grind.{get_or-set_at}
use Rattle.std.proofs.lemmas.List.{get_or-set_other, length-map, take-map}
use Rattle.typed_chunk.specs.TextReading.{offsets_of, with_beginning}
use Rattle.typed_chunk.proofs.BegunLaws.{sum_lengths}
use Rattle.typed_chunk.proofs.TextReadLaws.{offsets_are}

pub length-with : (start : List ℕ) (tails : List (List ℕ)) (has : List Bool)
    → length tails ≡ length has → length (with_beginning start tails has) ≡ length has
length-with start [] [] many = refl
length-with start [] (flag ∷ has) many = absurd (omega (arith, many))
length-with start (tail ∷ tails) [] many = absurd (omega (arith, many))
length-with start (tail ∷ tails) (true ∷ has) many =
    ap suc (length-with start tails has (omega (arith, many)))
length-with start (tail ∷ tails) (false ∷ has) many =
    ap suc (length-with start tails has (omega (arith, many)))

-- The text of one row.
pub with_at : (start : List ℕ) (tails : List (List ℕ)) (has : List Bool) (i : ℕ)
    → i < length tails → i < length has
    → (if get_or has i false then start ++ get_or tails i [] else [])
    ≡ get_or (with_beginning start tails has) i []
with_at start [] has i inside within = absurd (omega (arith, inside))
with_at start (tail ∷ tails) [] i inside within = absurd (omega (arith, within))
with_at start (tail ∷ tails) (true ∷ has) zero inside within = refl
with_at start (tail ∷ tails) (false ∷ has) zero inside within = refl
with_at start (tail ∷ tails) (true ∷ has) (suc i) inside within =
    with_at start tails has i (omega (arith, inside)) (omega (arith, within))
with_at start (tail ∷ tails) (false ∷ has) (suc i) inside within =
    with_at start tails has i (omega (arith, inside)) (omega (arith, within))

-- One more end is written.
pub whole_more : (whole : List ℕ) (texts : List (List ℕ)) (index end : ℕ)
    → index + 1 < length whole
    → ((k : ℕ) → k ≤ index → get_or whole k 0 ≡ length (concat (take k texts)))
    → end ≡ length (concat (take (index + 1) texts)) → (k : ℕ) → k ≤ index + 1
    → get_or (set whole (index + 1) end) k 0 ≡ length (concat (take k texts))
whole_more whole texts index end inside are is k low = elim (cases_lt k (index + 1)) [
  | inl before ↦
      get_or-set_other whole (index + 1) k end 0 (omega (arith, before))
      ∙ are k (omega (arith, before))
  | inr here ↦
      let same : k ≡ index + 1 = omega (arith, low, here) in
      get_or-set_at whole (index + 1) k end 0 same inside ∙ is
      ∙ ap (λ (n : ℕ). length (concat (take n texts))) (sym same)
]

-- All ends are those of the lengths.
pub whole_are : (whole : List ℕ) (texts : List (List ℕ)) → length whole ≡ length texts + 1
    → ((k : ℕ) → k ≤ length texts → get_or whole k 0 ≡ length (concat (take k texts)))
    → whole ≡ offsets_of (map length texts)
whole_are whole texts many are =
    let long : length (map length texts) ≡ length texts = length-map texts length in
    offsets_are whole (map length texts) (omega (arith, many, long))
    (λ k low.
    are k (omega (arith, low, long))
    ∙ sym (ap sum (take-map length k texts) ∙ sum_lengths (take k texts)))
