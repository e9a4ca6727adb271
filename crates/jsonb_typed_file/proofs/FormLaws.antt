-- What holds of all, step by step.
use Rattle.std.proofs.Common.{◌≡◌, ◌≢◌, ◌⊎◌, inl, inr, ℕ, ◌+◌, ◌-◌, ◌<◌, ◌≤◌, Bool, true, false}
use Rattle.std.proofs.Common.{List, [], ◌∷◌, length, map, take, drop, slice_index_or}
use Rattle.std.specs.Bool.{OnFalse}
use Rattle.std.specs.Prelude.{◌↔◌}
use Rattle.std.proofs.Common.{sym, ap, subst, arith, ◌∙◌}
use Rattle.std.proofs.Math.Nat.{eq-or-lt_of_le}
use Rattle.std.proofs.lemmas.List.{take_all}
use Rattle.jsonb_typed_file.specs.declared.error.FileError.{FileError}
use Rattle.jsonb_typed_file.specs.declared.error.FileError.TheVariants.{OutOfForm, OutOfMemory}
use Rattle.jsonb_typed_file.specs.declared.error.FileError.TheVariants.{TrailingData}
use Rattle.jsonb_typed_file.specs.declared.buffers.Buffers.{Buffers}
use Rattle.jsonb_typed_file.specs.File.{HaveRows, HaveTexts}
use Rattle.jsonb_typed_file.specs.Values.{AreColumnTexts}
use Rattle.jsonb_typed_file.specs.Views.{buffers_view}
use Rattle.jsonb_typed_file.proofs.LayoutLaws.{no_true}

-- What holds below an index and at it holds below the next.
pub below_more : (P : ℕ → Type 0) (n : ℕ) → ((i : ℕ) → i < n → P i) → P n → (i : ℕ)
    → i < n + 1
    → P i
below_more P n all at i low =
    let few : i ≤ n = omega (arith, low) in picked (eq-or-lt_of_le few)
  where
    picked : (i ≡ n) ⊎ (i < n) → P i
    picked (inl is) = subst P (sym is) at
    picked (inr less) = all i less

-- A whole file is refused for want of memory only.
pub only_memory : (e : FileError) (more : List ℕ) → more ≡ []
    → (e ≡ OutOfMemory) ⊎ ((e ≡ TrailingData) × (more ≢ []))
    → e ≡ OutOfMemory
only_memory e more none (inl is) = is
only_memory e more none (inr (_, some)) = absurd (some none)

abbrev is_memory : FileError → Bool
is_memory OutOfMemory = true
is_memory e = false

pub form_or_memory : (e : FileError) → e ≡ OutOfForm → e ≡ OutOfMemory → ⊥
form_or_memory e form memory = no_true (ap is_memory (sym form ∙ memory))

-- What follows from what holds if it is false.
pub if_false : (b : Bool) (P Q : Type 0) → (P → Q) → OnFalse b P → OnFalse b Q
if_false true P Q onward held = tt
if_false false P Q onward held = onward held

-- It is not both.
pub not_both : (b : Bool) → b ≡ false → b ≡ true → ⊥
not_both b failed held = no_true (sym failed ∙ held)

-- The columns after the first.
pub later_is : (b : Buffers) (bs : List Buffers)
    → take (length (b ∷ bs) - 1) (drop 1 (b ∷ bs)) ≡ bs
later_is b bs = take_all (length (b ∷ bs) - 1) bs (omega arith)

pub rows_later : (rows : ℕ) (left : List Buffers) → HaveRows rows (map buffers_view left)
    → HaveRows rows (map buffers_view (take (length left - 1) (drop 1 left)))
rows_later rows [] all = all
rows_later rows (b ∷ bs) all =
    subst (λ x. HaveRows rows (map buffers_view x)) (sym (later_is b bs)) all.1

pub texts_later : (rows : ℕ) (left : List Buffers) (A : Type 0) (d : Buffers)
    → 1 ≤ length left → A ↔ HaveTexts rows (map buffers_view left)
    → AreColumnTexts rows (buffers_view (slice_index_or left 0 d))
    → A ↔ HaveTexts rows (map buffers_view (take (length left - 1) (drop 1 left)))
texts_later rows [] A d some so_far one = absurd (omega (arith, some))
texts_later rows (b ∷ bs) A d some so_far one = (
  λ a. subst (λ x. HaveTexts rows (map buffers_view x)) (sym (later_is b bs)) (so_far.0 a).1,
  λ more. so_far.1
      (one, subst (λ x. HaveTexts rows (map buffers_view x)) (later_is b bs) more),
)
