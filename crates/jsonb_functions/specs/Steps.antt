-- Results of a search that may end without an answer.
use Rattle.std.specs.Prelude.{◌≡◌, ◌<◌, ◌+◌, ⊤, ℕ, Bool, true, Result, Ok, Err}
use Rattle.std.specs.Prelude.{MatchResult}
use Rattle.jsonb_functions.specs.ContainSteps.{Work}
use Rattle.jsonb_functions.specs.declared.steps.Unanswered.{Unanswered}
use Rattle.jsonb_functions.specs.declared.steps.Unanswered.TheVariants.{TooManySteps, OutOfMemory}

-- There were fewer steps than so many, or an allocation failed.
abbrev pub FallsShort : ℕ → ℕ → Unanswered → Type 0
FallsShort before cost TooManySteps = before < cost
FallsShort before cost OutOfMemory = ⊤

-- Exactly so many steps were taken, or there were fewer, or an allocation failed.
abbrev pub Takes : {A : Type 0} → Result A Unanswered → ℕ → ℕ → ℕ → Type 0
Takes r cost before after =
    MatchResult r (λ a. before ≡ after + cost) (FallsShort before cost)

-- There were fewer steps than the work takes, or an allocation failed, which only work does that
-- sorts.
abbrev pub Lacks : ℕ → Work → Unanswered → Type 0
Lacks before work TooManySteps = before < work.steps
Lacks before work OutOfMemory = work.sorts ≡ true

-- The work was done, for exactly its steps, or something was lacking.
abbrev pub DoneBy : {A : Type 0} → Result A Unanswered → Work → ℕ → ℕ → Type 0
DoneBy r work before after =
    MatchResult r (λ a. before ≡ after + work.steps) (Lacks before work)

-- The result of a search that does this work, or something was lacking.
abbrev pub FoundBy : Result Bool Unanswered → Bool → Work → ℕ → ℕ → Type 0
FoundBy (Ok b) found work before after = (b ≡ found) × (before ≡ after + work.steps)
FoundBy (Err e) found work before after = Lacks before work e
