-- Where the reader is after a step.
use Rattle.std.specs.Prelude.{◌≡◌, ℕ, suc, Bool, List, Option, Some, chars, length}
use Rattle.jsonb_value.specs.declared.parser.number.Exponents.{Exponents}
use Rattle.jsonb_value.specs.Tree.{Tree}
use Rattle.jsonb_value.specs.declared.parser.reader.Step.{Step}
use Rattle.jsonb_value.specs.declared.parser.reader.Step.TheVariants as steps
use Rattle.jsonb_value.specs.Reader.Resume.{State, whole, IsAtValue, IsAfterValue}

abbrev pub IsAtStep : {S : Type 0} → Exponents → (S → State → Type 0) → Option Tree → S → List Bool
    → Step → Type 0
IsAtStep rule is target sink kinds (steps.Value rest) =
    IsAtValue rule is target sink kinds (chars rest.now)
IsAtStep rule is target sink kinds (steps.After rest) =
    IsAfterValue rule is target sink kinds (chars rest.now)
IsAtStep rule is target sink kinds steps.End = (t : Tree) × ((target ≡ Some t) × is sink (whole t))

-- More than the count of the characters that are left, or nothing at the end.
abbrev pub left : Step → ℕ
left (steps.Value rest) = suc (length (chars rest.now))
left (steps.After rest) = suc (length (chars rest.now))
left steps.End = 0
