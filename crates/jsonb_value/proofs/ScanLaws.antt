-- How deep a text nests, character by character.
use Rattle.std.proofs.Common.{◌≡◌, ◌↔◌, ℕ, suc, ◌+◌, ◌≤◌, ◌<◌, List, [], ◌∷◌, subst, arith}
use Rattle.std.proofs.Common.{length}
use Rattle.jsonb_value.specs.declared.text_depth.ScanState.{ScanState}
use Rattle.jsonb_value.specs.TextDepth.{state_after, level_after, greatest_level}

one_more : (state : ScanState) (level c : ℕ) → level_after state level c ≤ suc level
one_more state level c = grind arith

pub level_within : (state : ScanState) (level : ℕ) (text : List ℕ)
    → level ≤ greatest_level state level text
level_within state level [] = omega arith
level_within state level (c ∷ text) = omega arith

-- no more brackets than characters are open at once
pub level_most : (state : ScanState) (level : ℕ) (text : List ℕ)
    → greatest_level state level text ≤ level + length text
level_most state level [] = omega arith
level_most state level (c ∷ text) =
    let more = level_most (state_after state c) (level_after state level c) text in
    let one = one_more state level c in
    omega (arith, more, one)

module _ (A : Type 0) (state : ScanState) (level c depth : ℕ) (left rest : List ℕ)
    (cut : left ≡ c ∷ rest) (inside : level ≤ depth)
    (same : A ↔ (greatest_level state level left ≤ depth)) where
  here : A ↔ (greatest_level state level (c ∷ rest) ≤ depth)
  here = subst (λ (text : List ℕ). A ↔ (greatest_level state level text ≤ depth)) cut same

  -- what is left says the same after one more character
  pub one_more_character : (after : ScanState) (next : ℕ) → after ≡ state_after state c
      → next ≡ level_after state level c → A ↔ (greatest_level after next rest ≤ depth)
  one_more_character after next moved leveled =
      let both = here in
      rw (moved, leveled) (λ a. let all = both.0 a in omega arith, λ within. both.1 (omega arith))

  -- one bracket too many is too many
  pub one_too_many : (next : ℕ) → next ≡ level_after state level c → depth < next → A → ⊥
  one_too_many next leveled over a =
      let all = here.0 a in
      let rest_is = level_within (state_after state c) (level_after state level c) rest in
      omega arith
