-- The first type that holds all members.
use Rattle.std.proofs.Common.{◌≡◌, ℕ, ◌+◌, ◌<◌, ◌≤◌, List, ◌∷◌, length, take, sym}
use Rattle.std.proofs.Common.{subst, inr}
use Rattle.std.specs.Prelude.{All, slice_index_or}
use Rattle.std.proofs.lemmas.List.{take_all}
use Rattle.std.proofs.lemmas.List.Elements.{All-more}
use Rattle.jsonb.specs.declared.document.Document.{Document}
use Rattle.jsonb_functions.specs.declared.path.Step.{Step}
use Rattle.jsonb_typed.specs.LeastTypes.{IsFirstHeld, IsHeldAt}
use Rattle.jsonb_typed.specs.declared.lattice.LeastType.{LeastType}
use Rattle.jsonb_typed.specs.declared.numbers.Fit.{Fit}

-- Where a candidate does not hold all, the first is among those after it.
pub first_later : (fit : Fit) (path : List Step) (rows : List Document)
    (left later : List LeastType) (c found : LeastType) → left ≡ c ∷ later
    → (All (IsHeldAt fit c path) rows → ⊥) → IsFirstHeld fit path rows later found
    → IsFirstHeld fit path rows left found
first_later fit path rows left later c found is other first =
    subst (λ (cs : List LeastType). IsFirstHeld fit path rows cs found) (sym is)
    (inr (other, first))

-- One more row is held, or one is not.
pub row_held : (P : Document → Type 0) (rows : List Document) (i : ℕ) (row : Document)
    → i < length rows → row ≡ slice_index_or rows i row → All P (take i rows) → P row
    → All P (take (i + 1) rows)
row_held P rows i row low is so_far one = All-more P rows i row low so_far (subst P is one)

pub all_held : (P : Document → Type 0) (rows : List Document) (i : ℕ) → length rows ≤ i
    → All P (take i rows) → All P rows
all_held P rows i past held = subst (All P) (take_all i rows past) held
