-- Calls over rows and a path, by what they refuse and what they do.
use Rattle.std.proofs.Common.{◌≡◌, ℕ, List, Option, None, Some, Ok, Err, inl, inr}
use Rattle.jsonb_value.specs.Meaning.{Meaning, document, other_bytes}
use Rattle.jsonb_functions.specs.declared.path.Step.{Step}
use Rattle.jsonb_functions.specs.StoredPath.{StepView, path_in}
use Rattle.kohiblad.specs.OverRows.{OverRows, WithPath, WithSteps}
use Rattle.typed_vector.specs.Cells.{rows}

pub not_refused : {A : Type 0} (x : A) (status : ℕ) → Ok x ≡ Err status → ⊥
not_refused x status both = absurd cc

module _ (Refused Refuses : ℕ → Type 0) (Done Does : List Step → Type 0)
    (refuse : (status : ℕ) → Refused status → Refuses status)
    (perform : (path : List Step) → Done path → Does path) where
  same_steps : (steps : Option (List StepView)) → WithSteps Refused Done steps
      → WithSteps Refuses Does steps
  same_steps None refused = refuse _ refused
  same_steps (Some steps) (path, (is, done)) = (path, (is, perform path done))

  pub same_path : (path : Meaning) → WithPath Refused Done path → WithPath Refuses Does path
  same_path (document p) (inl steps) = inl (same_steps (path_in p) steps)
  same_path (document p) (inr refused) = inr (refuse _ refused)
  same_path (other_bytes b) refused = refuse _ refused

-- The same of calls over rows.
module _ (Refused Refuses : ℕ → Type 0) (Done Does : List (List ℕ) → List Step → Type 0)
    (refuse : (status : ℕ) → Refused status → Refuses status)
    (perform : (all : List (List ℕ)) (path : List Step) → Done all path → Does all path)
    (bytes offsets : List ℕ) (path : Meaning) where
  pub over_rows : OverRows Refused Done bytes offsets path
      → OverRows Refuses Does bytes offsets path
  over_rows (inl (bad, refused)) = inl (bad, refuse _ refused)
  over_rows (inr (good, done)) =
      let all = rows bytes offsets in
      inr (good, same_path Refused Refuses (Done all) (Does all) refuse (perform all) path done)
