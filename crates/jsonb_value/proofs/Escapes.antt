-- The content of a string in runs: the bytes before the first escaped one, and the bytes after it.
use Rattle.std.proofs.Common.{◌≡◌, ℕ, suc, ◌+◌, ◌<◌, ◌≤◌, true, false, List, [], ◌∷◌, ◌++◌, Some}
use Rattle.std.proofs.Common.{None, length, take, drop, get_or, flat_map, refl, sym, ap, ◌∙◌, inl}
use Rattle.std.proofs.Common.{inr, arith, add-one, ap₂, nat_lt, take-append-drop, position}
use Rattle.std.proofs.Common.{length-take}
use Rattle.std.proofs.Math.Seq.{drop-cons}
use Rattle.std.proofs.lemmas.Bool.{cases_Bool}
use Rattle.std.proofs.lemmas.Bool.Decides.{nat_tests}
use Rattle.std.proofs.lemmas.Grind.{flat_map-append}
use Rattle.std.proofs.lemmas.List.{get_or-take}
use Rattle.std.proofs.lemmas.Option.{none-some}
use Rattle.std.proofs.lemmas.List.Quantifiers.{position-Some}
use Rattle.std.specs.List.{position_or_len}
use Rattle.jsonb_value.specs.Text.{is_escaped, escape, byte_text}

pub is_escaped-ascii : (b : ℕ) → is_escaped b ≡ true → b < 128
is_escaped-ascii b escaped = grind (arith, nat_tests)

pub plain_front : (xs : List ℕ) → ((k : ℕ) → k < length xs → is_escaped (get_or xs k 0) ≡ false)
    → flat_map byte_text xs ≡ xs
plain_front [] plain = refl
plain_front (x ∷ xs) plain =
    let first : is_escaped x ≡ false = plain 0 (omega arith) in
    rw first (ap (λ (l : List ℕ). x ∷ l) (plain_front xs (λ k below. plain (suc k) (omega arith))))

-- the position of the first escaped byte
pub record IsRun (s : List ℕ) (at : ℕ) : Type 0 where
  pub within : at < length s
  pub ascii : get_or s at 0 < 128
  pub content : flat_map byte_text s ≡ take at s
      ++ (escape (get_or s at 0) ++ flat_map byte_text (drop (at + 1) s))

pub IsRun-found : (s : List ℕ) (at : ℕ) → position is_escaped s ≡ Some at → IsRun s at
IsRun-found s at found =
    let (within, escaped, before) = position-Some is_escaped s at 0 found in
    let b = get_or s at 0 in
    let rest = drop (at + 1) s in
    let whole : s ≡ take at s ++ b ∷ rest =
    sym (take-append-drop at s) ∙ rw (add-one, drop-cons s at 0 within) refl in
    let front : flat_map byte_text (take at s) ≡ take at s =
    plain_front (take at s) (λ k below.
    let shorter : k < at = omega (arith, length-take at s) in
    ap is_escaped (get_or-take at s k 0 shorter) ∙ before k shorter) in
    let text : flat_map byte_text (b ∷ rest) ≡ escape b ++ flat_map byte_text rest =
    rw escaped refl in
    record {
      within = within;
      ascii = is_escaped-ascii b escaped;
      content = ap (flat_map byte_text) whole ∙ flat_map-append byte_text (take at s) (b ∷ rest)
          ∙ ap₂ (λ (x y : List ℕ). x ++ y) front text;
    }

plain_whole : (s : List ℕ) → length s ≤ position_or_len is_escaped s → flat_map byte_text s ≡ s
plain_whole [] far = refl
plain_whole (x ∷ xs) far =
    elim (cases_Bool (is_escaped x)) [
      | inl escaped ↦ absurd (omega (arith, rw escaped at far))
      | inr plain ↦ rw plain
          (ap (λ (l : List ℕ). x ∷ l) (plain_whole xs (omega (arith, rw plain at far))))
    ]

pub content-plain : (s : List ℕ) → position is_escaped s ≡ None → flat_map byte_text s ≡ s
content-plain s none =
    grind (arith, cases_Bool, nat_lt, none-some, plain_whole, nat_tests)
