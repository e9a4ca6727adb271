-- What a run over the rows of an input reads and writes.
use Rattle.std.specs.Prelude.{◌≡◌, ℕ, List, [], ◌∷◌, ◌++◌, false, Option}
use Rattle.std.specs.Io.KnownBytes.{Appends}
use Rattle.answer_lines.specs.Output.{AppendsPrefix}
use Rattle.kohiblad_shell.specs.declared.run.Plan.{Plan}
use Rattle.kohiblad_shell.specs.declared.run.Summary.{Summary}
use Rattle.kohiblad_shell.specs.Outcomes.{Answers, Outcome, LineRule, after_all, output_of}
use Rattle.kohiblad_shell.specs.Outcomes.{reports_of, row_count, fault_count, stops_in}

-- A run ends at none of the outcomes before the last one.
abbrev pub GoesOnToLast : Plan → List Outcome → Type 0
GoesOnToLast plan outcomes = (before : List Outcome) (last : Outcome)
    → outcomes ≡ before ++ last ∷ [] → stops_in plan before ≡ false

-- The rows of the input were answered, in order, up to the end, or up to the first fault at which
-- the run ends; what they gave and the reports of their faults were appended; the worker is what it
-- is after them.
pub record IsRun {W : Type 0} (rule : LineRule) (after : W → List ℕ → W)
    (old_worker new_worker : W) (plan : Plan) (input : List ℕ)
    (old_output new_output old_errors new_errors : Option (List ℕ)) (summary : Summary) : Type 0
  where
    pub outcomes : List Outcome
    pub rest : List ℕ
    pub answered : Answers rule plan.form input outcomes rest
    pub worker : new_worker ≡ after_all after old_worker outcomes
    pub output : Appends old_output new_output (output_of outcomes)
    pub errors : Appends old_errors new_errors (reports_of plan.name.now 0 outcomes)
    pub stops : GoesOnToLast plan outcomes
    pub stopped : summary.is_stopped ≡ stops_in plan outcomes
    pub whole : summary.is_stopped ≡ false → rest ≡ []
    pub rows : summary.rows ≡ row_count outcomes
    pub faults : summary.faults ≡ fault_count outcomes
    pub lacks : summary.lacks_input ≡ false

-- Some rows of the input were answered, in order, none after a fault at which the run ends; a
-- prefix of what they gave and one of their reports were appended; the worker is what it is
-- after them.
pub record BeginsRun {W : Type 0} (rule : LineRule) (after : W → List ℕ → W)
    (old_worker new_worker : W) (plan : Plan) (input : List ℕ)
    (old_output new_output old_errors new_errors : Option (List ℕ)) : Type 0 where
  pub outcomes : List Outcome
  pub rest : List ℕ
  pub answered : Answers rule plan.form input outcomes rest
  pub worker : new_worker ≡ after_all after old_worker outcomes
  pub output : AppendsPrefix old_output new_output (output_of outcomes)
  pub errors : AppendsPrefix old_errors new_errors (reports_of plan.name.now 0 outcomes)
  pub stops : GoesOnToLast plan outcomes
