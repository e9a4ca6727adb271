-- The results of reading a path in a document, as C receives them.
use Rattle.std.specs.Prelude.{◌≡◌, ◌⊎◌, ℕ, List, Some}
use Rattle.std.specs.Str.{IsUtf8}
use Rattle.jsonb_value.specs.declared.error.Error.TheVariants.{InvalidJsonb, InvalidUtf8}
use Rattle.jsonb_value.specs.declared.error.Error.TheVariants.{OutOfMemory}
use Rattle.jsonb_value.specs.Meaning.{Meaning, document, other_bytes}
use Rattle.jsonb_value.specs.Tree.{Tree}
use Rattle.jsonb.specs.Within.{meaning_within}
use Rattle.jsonb_functions.specs.NamedSteps.{steps_by}
use Rattle.jsonb_functions.specs.NameList.{NameList}
use Rattle.jsonb_functions.specs.PathDocument.{path_tree}
use Rattle.jsonb_functions.specs.Pointer.{pointer_of}
use Rattle.jsonb_functions.specs.StoredPath.{StepView}
use Rattle.kohiblad.specs.Functions.{WritesTo}
use Rattle.kohiblad.specs.PathCalls.{GivesSteps}
use Rattle.kohiblad.specs.Status.{code, other_kind, IsOneAnswered, IsRefused}

-- The text is the JSON pointer or the list of these names.
abbrev pub GivesNames : List ℕ → List (List ℕ) → Type 0
GivesNames text names = (text ≡ pointer_of names) ⊎ NameList text names

-- The text is a path of these steps, without wildcards and ranges, or gives names that are these
-- steps in the tree.
abbrev pub GivesStepsIn : Tree → List ℕ → List StepView → Type 0
GivesStepsIn t text path =
    GivesSteps text path
    ⊎ ((names : List (List ℕ)) × (GivesNames text names × (path ≡ steps_by names (Some t))))

-- The document of the path is handed over, or there is not enough memory.
abbrev pub IsPathMade : List StepView → List ℕ → List ℕ → ℕ → ℕ → Type 0
IsPathMade path before after size status =
    IsOneAnswered (WritesTo (path_tree path)) before after size status
    ⊎ IsRefused (code OutOfMemory) before after size status

-- The document of the path that a UTF-8 text gives in a document is handed over; a text that gives
-- none is refused; or there is not enough memory. Bytes that are not a document are refused.
abbrev pub IsPathOf : Meaning → List ℕ → List ℕ → List ℕ → ℕ → ℕ → Type 0
IsPathOf (document t) text before after size status =
    ((path : List StepView)
    × (GivesStepsIn t text path
    × IsOneAnswered (WritesTo (path_tree path)) before after size status))
    ⊎ ((((path : List StepView) → GivesStepsIn t text path → ⊥)
    × IsRefused other_kind before after size status)
    ⊎ IsRefused (code OutOfMemory) before after size status)
IsPathOf (other_bytes b) text before after size status =
    IsRefused (code InvalidJsonb) before after size status

-- The text is refused if it is not UTF-8, and otherwise read in the document, which may have at
-- most this depth.
abbrev pub IsPathIn : ℕ → List ℕ → List ℕ → List ℕ → List ℕ → ℕ → ℕ → Type 0
IsPathIn depth bytes text before after size status =
    ((IsUtf8 text → ⊥) × IsRefused (code InvalidUtf8) before after size status)
    ⊎ (IsUtf8 text × IsPathOf (meaning_within depth bytes) text before after size status)
