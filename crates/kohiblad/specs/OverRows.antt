-- Calls over rows and the document of a path: what they refuse, and what they do otherwise.
use Rattle.std.specs.Prelude.{◌≡◌, ◌⊎◌, ℕ, true, false, List, map, length, Option, None, Some}
use Rattle.jsonb_value.specs.declared.error.Error.TheVariants.{InvalidEOF, InvalidJsonb}
use Rattle.jsonb_value.specs.declared.error.Error.TheVariants.{OutOfMemory}
use Rattle.jsonb_value.specs.Meaning.{Meaning, document, other_bytes}
use Rattle.jsonb_functions.specs.declared.path.Step.{Step}
use Rattle.jsonb_functions.specs.StoredPath.{StepView, path_in, step_view}
use Rattle.kohiblad.specs.Rows.{are_offsets}
use Rattle.typed_vector.specs.Cells.{rows}
use Rattle.kohiblad.specs.Status.{code, other_kind}

-- The call is done with these steps, or refused with a status: there are none.
abbrev pub WithSteps : (ℕ → Type 0) → (List Step → Type 0) → Option (List StepView) → Type 0
WithSteps Refused Done None = Refused other_kind
WithSteps Refused Done (Some steps) =
    (path : List Step) × ((map step_view path ≡ steps) × Done path)

-- The call is done with the steps of the path that a document gives; or there is not enough memory.
-- Bytes that are not a document are refused.
abbrev pub WithPath : (ℕ → Type 0) → (List Step → Type 0) → Meaning → Type 0
WithPath Refused Done (document p) =
    WithSteps Refused Done (path_in p) ⊎ Refused (code OutOfMemory)
WithPath Refused Done (other_bytes b) = Refused (code InvalidJsonb)

-- The call is done over the rows, with the steps of the path. Offsets that are below the previous
-- one or beyond the bytes are refused first.
abbrev pub OverRows : (ℕ → Type 0) → (List (List ℕ) → List Step → Type 0) → List ℕ → List ℕ
    → Meaning → Type 0
OverRows Refused Done bytes offsets path =
    ((are_offsets (length bytes) 0 offsets ≡ false) × Refused (code InvalidEOF))
    ⊎ ((are_offsets (length bytes) 0 offsets ≡ true)
    × WithPath Refused (Done (rows bytes offsets)) path)
