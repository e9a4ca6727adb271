-- What rows give.
use Rattle.std.specs.Prelude.{◌≡◌, ◌||◌, ℕ, suc, Bool, true, false, List, [], ◌∷◌, ◌++◌, Result, Ok}
use Rattle.std.specs.Prelude.{Err, Option, None, Some, ⊤}
use Rattle.std.specs.declared.alloc.Global.{Global}
use Rattle.std.specs.declared.vec.Vec.{Vec}
use Rattle.kohiblad_shell.specs.declared.outcome.LineFault.{LineFault}
use Rattle.kohiblad_shell.specs.declared.outcome.Unanswered.{Unanswered}
use Rattle.kohiblad_shell.specs.declared.outcome.Unanswered.TheVariants.{Wrong, OutOfMemory}
use Rattle.kohiblad_shell.specs.declared.input.Form.{Form}
use Rattle.kohiblad_shell.specs.declared.run.Answer.{Answer}
use Rattle.kohiblad_shell.specs.declared.run.Answer.TheVariants as answer
use Rattle.kohiblad_shell.specs.declared.run.Plan.{Plan}
use Rattle.array_items.specs.declared.array.ArrayFault.{ArrayFault}
use Rattle.kohiblad_shell.specs.Faults.{cut_after, fault_line, is_cut, no_array_after}
use Rattle.kohiblad_shell.specs.Inputs.{HasNoRow, IsCut, IsNextRow, IsNoArray}

-- What a row of an input gives: rows, each with its line feed, or a fault.
abbrev pub Outcome : Type 0
Outcome = Result (List ℕ) LineFault

-- What a row of an input may give.
abbrev pub LineRule : Type 1
LineRule = List ℕ → Outcome → Type 0

-- A row that is passed over gives nothing, and another one such an outcome.
abbrev pub IsUnlessPassed : Bool → (Outcome → Type 0) → Outcome → Type 0
IsUnlessPassed true Is outcome = outcome ≡ Ok []
IsUnlessPassed false Is outcome = Is outcome

-- The result is such an outcome, or there is not enough memory.
abbrev pub IsOutcome : (Outcome → Type 0) → Result (Vec ℕ Global) Unanswered → Type 0
IsOutcome Is (Ok rows) = Is (Ok rows.items)
IsOutcome Is (Err (Wrong fault)) = Is (Err fault)
IsOutcome Is (Err OutOfMemory) = ⊤

-- An answer follows the rule, or there is not enough memory.
abbrev pub IsAnswer : LineRule → List ℕ → Result (Vec ℕ Global) Unanswered → Type 0
IsAnswer rule line result = IsOutcome (rule line) result

-- What the rows at the beginning of the bytes give, in order, up to the rest: by the rule, or the
-- fault of a row that is cut off, after which nothing is left, or of one at which the bytes are no
-- array. Where there is no row nothing is left.
pub data Answers (rule : LineRule) (form : Form) : List ℕ → List Outcome → List ℕ → Type 0 where
  none : {bytes : List ℕ} → Answers rule form bytes [] bytes
  more : {bytes row rest end : List ℕ} {outcome : Outcome} {outcomes : List Outcome}
      → IsNextRow form bytes row rest → rule row outcome → Answers rule form rest outcomes end
      → Answers rule form bytes (outcome ∷ outcomes) end
  cut : {bytes end : List ℕ} {outcomes : List Outcome} (part : List ℕ) → IsCut form bytes part
      → Answers rule form [] outcomes end
      → Answers rule form bytes (Err (cut_after part) ∷ outcomes) end
  no_array : {bytes rest end : List ℕ} {outcomes : List Outcome} (part : List ℕ)
      (fault : ArrayFault) → IsNoArray form bytes part rest fault
      → Answers rule form rest outcomes end
      → Answers rule form bytes (Err (no_array_after part fault) ∷ outcomes) end
  no_row : {bytes end : List ℕ} {outcomes : List Outcome} (row rest : List ℕ)
      → HasNoRow form bytes row rest → Answers rule form [] outcomes end
      → Answers rule form bytes outcomes end

-- What the first row of the bytes gives, if there is one, and what follows it.
abbrev pub AnswersFirst : LineRule → Form → List ℕ → List ℕ → Answer → Type 0
AnswersFirst rule form bytes rest (answer.Rows rows) =
    Answers rule form bytes (Ok rows.items ∷ []) rest
AnswersFirst rule form bytes rest (answer.Wrong fault) =
    Answers rule form bytes (Err fault ∷ []) rest
AnswersFirst rule form bytes rest answer.End = Answers rule form bytes [] []

-- The same where the bytes are known.
abbrev pub AnswersNext : LineRule → Form → Option (List ℕ) → Option (List ℕ) → Answer → Type 0
AnswersNext rule form None new next = ⊤
AnswersNext rule form (Some bytes) None next = ⊥
AnswersNext rule form (Some bytes) (Some rest) next = AnswersFirst rule form bytes rest next

-- Whether there are no bytes.
abbrev pub has_none : List ℕ → Bool
has_none [] = true
has_none (byte ∷ bytes) = false

-- Whether a row gives no rows and is not wrong.
abbrev pub gives_nothing : Answer → Bool
gives_nothing (answer.Rows rows) = has_none rows.items
gives_nothing next = false

-- Rows that a worker gave change nothing of what later lines may give.
abbrev pub KeepsRule : {W : Type 0} → (W → LineRule) → (W → List ℕ → W) → Type 0
KeepsRule {W = W} rule after = (w : W) (rows line : List ℕ) (outcome : Outcome)
    → rule (after w rows) line outcome → rule w line outcome

-- What a worker is after these outcomes: rows change it, and faults do not.
abbrev pub after_all : {W : Type 0} → (W → List ℕ → W) → W → List Outcome → W
after_all after w [] = w
after_all after w (Ok rows ∷ outcomes) = after_all after (after w rows) outcomes
after_all after w (Err fault ∷ outcomes) = after_all after w outcomes

-- The same after what the next row gives, if there is one.
abbrev pub after_answer : {W : Type 0} → (W → List ℕ → W) → W → Answer → W
after_answer after w (answer.Rows rows) = after w rows.items
after_answer after w (answer.Wrong fault) = w
after_answer after w answer.End = w

-- The rows, one after another.
abbrev pub output_of : List Outcome → List ℕ
output_of [] = []
output_of (Ok text ∷ outcomes) = text ++ output_of outcomes
output_of (Err fault ∷ outcomes) = output_of outcomes

-- The reports of the faults; so many rows are before these.
abbrev pub reports_of : List ℕ → ℕ → List Outcome → List ℕ
reports_of name before [] = []
reports_of name before (Ok text ∷ outcomes) = reports_of name (suc before) outcomes
reports_of name before (Err fault ∷ outcomes) =
    fault_line name (suc before) fault ++ reports_of name (suc before) outcomes

-- How many rows of the input give a row.
abbrev pub row_count : List Outcome → ℕ
row_count [] = 0
row_count (Ok [] ∷ outcomes) = row_count outcomes
row_count (Ok (b ∷ text) ∷ outcomes) = suc (row_count outcomes)
row_count (Err fault ∷ outcomes) = row_count outcomes

-- How many rows are wrong.
abbrev pub fault_count : List Outcome → ℕ
fault_count [] = 0
fault_count (Ok text ∷ outcomes) = fault_count outcomes
fault_count (Err fault ∷ outcomes) = suc (fault_count outcomes)

-- Whether a run ends at an outcome: at a fault, if the plan stops there or rows after it may be lost.
abbrev pub stops_at : Plan → Outcome → Bool
stops_at plan (Ok text) = false
stops_at plan (Err fault) = plan.stops_at_faults || is_cut fault.reason

-- Whether it ends at one of these.
abbrev pub stops_in : Plan → List Outcome → Bool
stops_in plan [] = false
stops_in plan (outcome ∷ outcomes) = stops_at plan outcome || stops_in plan outcomes
