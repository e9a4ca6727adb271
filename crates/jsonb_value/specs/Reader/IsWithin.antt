-- How deep what is left of a text nests.
use Rattle.std.specs.Prelude.{◌≤◌, List, chars, length, ⊤, ℕ}
use Rattle.jsonb_value.specs.declared.parser.open_kinds.OpenKinds.{OpenKinds}
use Rattle.jsonb_value.specs.declared.parser.reader.Step.{Step}
use Rattle.jsonb_value.specs.declared.parser.reader.Step.TheVariants as steps
use Rattle.jsonb_value.specs.declared.text_depth.ScanState.TheVariants.{Outside}
use Rattle.jsonb_value.specs.TextDepth.{greatest_level}
use Rattle.jsonb_value.specs.Reader.OpenKinds.{kinds_held}

-- Before the rest of a text ends, no more containers are open at once than there may be.
pub record IsWithin (ks : OpenKinds) (rest : List ℕ) : Type 0 where
  pub is : greatest_level Outside (length (kinds_held ks)) rest ≤ ks.limit

-- The same of what is left after a step.
abbrev pub IsStepWithin : OpenKinds → Step → Type 0
IsStepWithin ks (steps.Value rest) = IsWithin ks (chars rest.now)
IsStepWithin ks (steps.After rest) = IsWithin ks (chars rest.now)
IsStepWithin ks steps.End = ⊤
