-- Rows that are passed over, and those that are not.
use Rattle.std.proofs.Common.{◌≡◌, ℕ, Bool, true, false, List, [], ◌∷◌, Result, Ok, Err, Vec, Global}
use Rattle.std.proofs.Common.{refl, arith}
use Rattle.jsonb.specs.Document.{tree_in}
use Rattle.jsonb_codec.specs.Doc.{IsDocument}
use Rattle.jsonb_codec.proofs.Steps.{document_room}
use Rattle.jsonb_typed.specs.Surveys.{member_cell, with_cell}
use Rattle.jsonb_typed.specs.declared.survey.Survey.{Survey}
use Rattle.kohiblad_shell.specs.Asked.{first_asked}
use Rattle.kohiblad_shell.specs.declared.outcome.Unanswered.{Unanswered}
use Rattle.kohiblad_shell.specs.declared.outcome.Unanswered.TheVariants.{Wrong, OutOfMemory}
use Rattle.kohiblad_shell.specs.declared.survey.ValueCounter.{ValueCounter}
use Rattle.kohiblad_shell.specs.Outcomes.{IsOutcome, IsUnlessPassed, Outcome}
use Rattle.kohiblad_shell.specs.Surveys.{with_row}

module _ (is_passed : Bool) (Is : Outcome → Type 0) where
  pub passed_gives : (rows : List ℕ) → is_passed ≡ true → rows ≡ []
      → IsUnlessPassed is_passed Is (Ok rows)
  passed_gives rows is none = rw (is, none) refl

  pub read_gives : (outcome : Outcome) → is_passed ≡ false → Is outcome
      → IsUnlessPassed is_passed Is outcome
  read_gives outcome not is = rw not is

  pub refused_gives : (unanswered : Unanswered) → is_passed ≡ false
      → IsOutcome Is (Err unanswered)
      → IsOutcome (λ outcome. IsUnlessPassed is_passed Is outcome) (Err unanswered)
  refused_gives (Wrong fault) not is = rw not is
  refused_gives OutOfMemory not is = tt

  pub result_gives : (result : Result (Vec ℕ Global) Unanswered) → is_passed ≡ false
      → IsOutcome Is result → IsOutcome (λ outcome. IsUnlessPassed is_passed Is outcome) result
  result_gives (Ok rows) not is = rw not is
  result_gives (Err unanswered) not is = refused_gives unanswered not is

-- ---- what counts values

pub passed_keeps : (counter : ValueCounter) (rows : List ℕ) → rows ≡ []
    → counter ≡ with_row counter rows
passed_keeps counter rows none = rw none refl

pub read_counts : (counter : ValueCounter) (survey : Survey) (bytes : List ℕ) → IsDocument bytes
    → survey ≡ with_cell counter.survey
    (member_cell (first_asked counter.path.now (tree_in bytes)))
    → record counter { survey = survey } ≡ with_row counter bytes
read_counts counter survey [] document is =
    absurd (omega (arith, document_room document.0 [] document.1))
read_counts counter survey (byte ∷ bytes) document is = rw is refl
