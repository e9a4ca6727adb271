-- The progress of a run over the rows of an input.
use Rattle.std.proofs.Common.{◌≡◌, ℕ, suc, ◌+◌, Bool, true, false, ◌||◌, List, [], Vec, Global}
use Rattle.std.proofs.Common.{◌∷◌, ◌++◌, length, refl, sym, ap, ap₂, ◌∙◌, subst, arith}
use Rattle.std.proofs.Common.{append_assoc, Ok, Err}
use Rattle.std.proofs.lemmas.List.{append-nil, length-append}
use Rattle.std.specs.Prelude.{Some, None, IfSome}
use Rattle.std.specs.Io.KnownBytes.{Appends, Keeps}
use Rattle.answer_lines.specs.Output.{AppendsPrefix}
use Rattle.answer_lines.proofs.Output.{Known, appends_nothing, appends_both, prefix_of_all}
use Rattle.answer_lines.proofs.Output.{prefix_after_all}
use Rattle.std.proofs.KnownBytes.{Appends-kept}
use Rattle.kohiblad_shell.specs.declared.input.Form.{Form}
use Rattle.kohiblad_shell.specs.declared.outcome.LineFault.{LineFault}
use Rattle.kohiblad_shell.specs.declared.run.Answer.TheVariants.{Rows, Wrong, End}
use Rattle.kohiblad_shell.specs.declared.run.Plan.{Plan}
use Rattle.kohiblad_shell.specs.declared.input.Found.TheVariants as found
use Rattle.array_items.specs.declared.array.ArrayFault.{ArrayFault}
use Rattle.kohiblad_shell.specs.Faults.{cut_after, fault_line, no_array_after}
use Rattle.kohiblad_shell.specs.Inputs.{ReadsRow}
use Rattle.kohiblad_shell.specs.Outcomes.{Outcome, LineRule, Answers, none, more, cut, no_array}
use Rattle.kohiblad_shell.specs.Outcomes.{AnswersNext, output_of, reports_of, row_count}
use Rattle.kohiblad_shell.specs.Outcomes.{fault_count, no_row}
use Rattle.kohiblad_shell.specs.Outcomes.{KeepsRule, after_all, after_answer, stops_at, stops_in}
use Rattle.kohiblad_shell.specs.Runs.{BeginsRun, GoesOnToLast, IsRun}

-- ---- one more outcome

output-append : (os ps : List Outcome) → output_of (os ++ ps) ≡ output_of os ++ output_of ps
output-append [] ps = refl
output-append (Ok text ∷ os) ps = rw (output-append os ps, append_assoc)
output-append (Err fault ∷ os) ps = output-append os ps

pub reports-append : (name : List ℕ) (n : ℕ) (os ps : List Outcome)
    → reports_of name n (os ++ ps) ≡ reports_of name n os ++ reports_of name (n + length os) ps
reports-append name n [] ps = let same : n + 0 ≡ n = omega arith in rw same
reports-append name n (Ok text ∷ os) ps =
    let same : n + suc (length os) ≡ suc n + length os = omega arith in
    rw same (reports-append name (suc n) os ps)
reports-append name n (Err fault ∷ os) ps =
    let same : n + suc (length os) ≡ suc n + length os = omega arith in
    rw (same, reports-append name (suc n) os ps) (sym (append_assoc (fault_line name (suc n) fault)
    (reports_of name (suc n) os) (reports_of name (suc n + length os) ps)))

rows-append : (os ps : List Outcome) → row_count (os ++ ps) ≡ row_count os + row_count ps
rows-append [] ps = omega arith
rows-append (Ok [] ∷ os) ps = rows-append os ps
rows-append (Ok (b ∷ text) ∷ os) ps = omega (arith, rows-append os ps)
rows-append (Err fault ∷ os) ps = rows-append os ps

pub faults-append : (os ps : List Outcome)
    → fault_count (os ++ ps) ≡ fault_count os + fault_count ps
faults-append [] ps = omega arith
faults-append (Ok text ∷ os) ps = faults-append os ps
faults-append (Err fault ∷ os) ps = omega (arith, faults-append os ps)

module _ {rule : LineRule} {form : Form} where
  pub Answers-append : {bytes mid end : List ℕ} {os ps : List Outcome}
      → Answers rule form bytes os mid → Answers rule form mid ps end
      → Answers rule form bytes (os ++ ps) end
  Answers-append none later = later
  Answers-append (more next answer others) later = more next answer (Answers-append others later)
  Answers-append (cut part is others) later = cut part is (Answers-append others later)
  Answers-append (no_array part fault is others) later =
      no_array part fault is (Answers-append others later)
  Answers-append (no_row row rest is others) later =
      no_row row rest is (Answers-append others later)

  -- no row is left
  pub Answers-end : {bytes mid : List ℕ} {os : List Outcome} → Answers rule form bytes os mid
      → Answers rule form mid [] [] → Answers rule form bytes os []
  Answers-end {bytes = bytes} {os = os} before later =
      subst (λ os. Answers rule form bytes os []) (append-nil os) (Answers-append before later)

after-append : {W : Type 0} (after : W → List ℕ → W) (w : W) (os ps : List Outcome)
    → after_all after w (os ++ ps) ≡ after_all after (after_all after w os) ps
after-append after w [] ps = refl
after-append after w (Ok rows ∷ os) ps = after-append after (after w rows) os ps
after-append after w (Err fault ∷ os) ps = after-append after w os ps

Answers-of : {rule other : LineRule} {form : Form} {bytes end : List ℕ} {os : List Outcome}
    → ((line : List ℕ) (o : Outcome) → rule line o → other line o)
    → Answers rule form bytes os end → Answers other form bytes os end
Answers-of is none = none
Answers-of is (more next answer others) = more next (is _ _ answer) (Answers-of is others)
Answers-of is (cut part ends others) = cut part ends (Answers-of is others)
Answers-of is (no_array part fault ends others) = no_array part fault ends (Answers-of is others)
Answers-of is (no_row row rest ends others) = no_row row rest ends (Answers-of is others)

-- ---- where a run ends

or_left : (a b : Bool) → (a || b) ≡ false → a ≡ false
or_left false b is = refl
or_left true b is = is

or_right : (a b : Bool) → (a || b) ≡ false → b ≡ false
or_right false b is = is
or_right true b is = absurd cc

or_true : (a b : Bool) → b ≡ true → (a || b) ≡ true
or_true false b is = is
or_true true b is = refl

module _ (plan : Plan) where
  -- one more outcome at which it goes on, or ends
  pub goes_on_more : (os : List Outcome) (o : Outcome) → stops_in plan os ≡ false
      → stops_at plan o ≡ false → stops_in plan (os ++ o ∷ []) ≡ false
  goes_on_more [] o so_far is = ap (λ (t : Bool). t || false) is
  goes_on_more (x ∷ os) o so_far is =
      ap₂ (λ (a b : Bool). a || b) (or_left _ _ so_far)
      (goes_on_more os o (or_right _ _ so_far) is)

  pub stops_more : (os : List Outcome) (o : Outcome) → stops_at plan o ≡ true
      → stops_in plan (os ++ o ∷ []) ≡ true
  stops_more [] o is = ap (λ (t : Bool). t || false) is
  stops_more (x ∷ os) o is = or_true _ _ (stops_more os o is)

  front_goes_on : (before : List Outcome) (last : Outcome)
      → stops_in plan (before ++ last ∷ []) ≡ false → stops_in plan before ≡ false
  front_goes_on [] last is = refl
  front_goes_on (o ∷ before) last is =
      ap₂ (λ (a b : Bool). a || b) (or_left _ _ is)
      (front_goes_on before last (or_right _ _ is))

  pub all_go_on : (os : List Outcome) → stops_in plan os ≡ false → GoesOnToLast plan os
  all_go_on os on before last is =
      front_goes_on before last (subst (λ ps. stops_in plan ps ≡ false) is on)

-- the last element and those before it are unique
front_of : (before os : List Outcome) (last o : Outcome)
    → os ++ o ∷ [] ≡ before ++ last ∷ [] → before ≡ os
front_of [] [] last o same = refl
front_of [] (x ∷ []) last o same = absurd cc
front_of [] (x ∷ y ∷ os) last o same = absurd cc
front_of (b ∷ []) [] last o same = absurd cc
front_of (b ∷ c ∷ before) [] last o same = absurd cc
front_of (b ∷ before) (x ∷ os) last o same =
    let head : x ≡ b = cc in
    let tails : os ++ o ∷ [] ≡ before ++ last ∷ [] = cc in
    let rest = front_of before os last o tails in cc

pub one_more_goes_on : (plan : Plan) (os : List Outcome) (o : Outcome) → stops_in plan os ≡ false
    → GoesOnToLast plan (os ++ o ∷ [])
one_more_goes_on plan os o on before last is =
    let same = front_of before os last o is in rw same on

-- nothing was written yet
pub prefix_of_none : (known : Known) (bytes : List ℕ) → AppendsPrefix known known bytes
prefix_of_none known bytes =
    record { written = []; unwritten = bytes; parts = refl; appends = appends_nothing known }

-- ---- a run so far

-- The rows before those that are left were answered.
pub record Taken {W : Type 0} (rule : W → LineRule) (after : W → List ℕ → W)
    (old_worker new_worker : W) (plan : Plan) (input left : List ℕ)
    (old_output new_output old_errors new_errors : Known) (before rows faults : ℕ) : Type 0 where
  pub outcomes : List Outcome
  pub answered : Answers (rule old_worker) plan.form input outcomes left
  pub worker : new_worker ≡ after_all after old_worker outcomes
  pub output : Appends old_output new_output (output_of outcomes)
  pub errors : Appends old_errors new_errors (reports_of plan.name.now 0 outcomes)
  pub counted : length outcomes ≡ before
  pub rows_are : rows ≡ row_count outcomes
  pub faults_are : faults ≡ fault_count outcomes
  pub goes_on : stops_in plan outcomes ≡ false

-- The same where the bytes are known.
abbrev pub IsSoFar : {W : Type 0} → (W → LineRule) → (W → List ℕ → W) → (old new : W) → Plan
    → (input left : Known) → (old_output new_output old_errors new_errors : Known)
    → (before rows faults : ℕ) → Type 0
IsSoFar rule after w v plan None left o p e f before rows faults = Unit {0}
IsSoFar rule after w v plan (Some input) None o p e f before rows faults = ⊥
IsSoFar rule after w v plan (Some input) (Some left) o p e f before rows faults =
    Taken rule after w v plan input left o p e f before rows faults

pub run_begins : {W : Type 0} (rule : W → LineRule) (after : W → List ℕ → W) (w : W)
    (plan : Plan) (input o e : Known) → IsSoFar rule after w w plan input input o o e e 0 0 0
run_begins rule after w plan None o e = tt
run_begins rule after w plan (Some input) o e = record {
  outcomes = [];
  answered = none;
  worker = refl;
  output = appends_nothing o;
  errors = appends_nothing e;
  counted = refl;
  rows_are = refl;
  faults_are = refl;
  goes_on = refl;
}

module _ {W : Type 0} (rule : W → LineRule) (after : W → List ℕ → W) (keeps : KeepsRule rule after)
    (w v : W) (plan : Plan) (o p e f : Known) (before rows faults : ℕ) where
  -- the worker follows the rule that it followed at first
  first_rule : (os : List Outcome) (u : W) (line : List ℕ) (next : Outcome)
      → rule (after_all after u os) line next → rule u line next
  first_rule [] u line next is = is
  first_rule (Ok rows ∷ os) u line next is =
      keeps u rows line next (first_rule os (after u rows) line next is)
  first_rule (Err fault ∷ os) u line next is = first_rule os u line next is

  next_answered : {bytes mid end : List ℕ} (os ps : List Outcome) → v ≡ after_all after w os
      → Answers (rule w) plan.form bytes os mid → Answers (rule v) plan.form mid ps end
      → Answers (rule w) plan.form bytes (os ++ ps) end
  next_answered os ps same before_it answer =
      Answers-append before_it
      (Answers-of (λ line next is. first_rule os w line next (rw same at is)) answer)

  -- the worker after one more answer
  next_worker : (os : List Outcome) (u : W) (next : Outcome) → v ≡ after_all after w os
      → u ≡ after_all after v (next ∷ []) → u ≡ after_all after w (os ++ next ∷ [])
  next_worker os u next so_far is =
      is ∙ ap (λ x. after_all after x (next ∷ [])) so_far
      ∙ sym (after-append after w os (next ∷ []))

  taken_begins : {input left : List ℕ} (q h : Known)
      → Taken rule after w v plan input left o p e f before rows faults → Keeps p q → Keeps f h
      → BeginsRun (rule w) after w v plan input o q e h
  taken_begins {left = left} q h t kept held = record {
    outcomes = t.outcomes;
    rest = left;
    answered = t.answered;
    worker = t.worker;
    output = prefix_of_all (Appends-kept o p q (output_of t.outcomes) t.output kept);
    errors = prefix_of_all
        (Appends-kept e f h (reports_of plan.name.now 0 t.outcomes) t.errors held);
    stops = all_go_on plan t.outcomes t.goes_on;
  }

  -- a run that ends early, with nothing more written
  pub run_stops : (input left q h : Known)
      → IsSoFar rule after w v plan input left o p e f before rows faults → Keeps p q → Keeps f h
      → IfSome input (λ i. BeginsRun (rule w) after w v plan i o q e h)
  run_stops None left q h so_far kept held = tt
  run_stops (Some input) None q h so_far kept held = absurd so_far
  run_stops (Some input) (Some left) q h so_far kept held = taken_begins q h so_far kept held

  -- nothing is left
  pub run_ends : (input left new : Known) (u : W)
      → IsSoFar rule after w v plan input left o p e f before rows faults
      → AnswersNext (rule v) plan.form left new End
      → u ≡ after_answer after v End
      → IfSome input (λ i. IsRun (rule w) after w u plan i o p e f
      (record { rows = rows; faults = faults; is_stopped = false; lacks_input = false }))
  run_ends None left new u so_far read same = tt
  run_ends (Some input) None new u so_far read same = absurd so_far
  run_ends (Some input) (Some left) None u so_far read same = absurd read
  run_ends (Some input) (Some left) (Some rest) u t ended same = record {
    outcomes = t.outcomes;
    rest = [];
    answered = subst (λ os. Answers (rule w) plan.form input os []) (append-nil t.outcomes)
        (next_answered t.outcomes [] t.worker t.answered ended);
    worker = same ∙ t.worker;
    output = t.output;
    errors = t.errors;
    stops = all_go_on plan t.outcomes t.goes_on;
    stopped = sym t.goes_on;
    whole = λ on. refl;
    rows = t.rows_are;
    faults = t.faults_are;
    lacks = refl;
  }

  -- a row gave rows, which were appended
  pub run_answers : (input left new q : Known) (u : W) (lines : Vec ℕ Global) (count : ℕ)
      → IsSoFar rule after w v plan input left o p e f before rows faults
      → AnswersNext (rule v) plan.form left new (Rows lines)
      → u ≡ after_answer after v (Rows lines) → Appends p q lines.items
      → count ≡ row_count (Ok lines.items ∷ [])
      → IsSoFar rule after w u plan input new o q e f (before + 1) (rows + count) faults
  run_answers None left new q u lines count so_far answer same appends is = tt
  run_answers (Some input) None new q u lines count so_far answer same appends is = absurd so_far
  run_answers (Some input) (Some left) None q u lines count so_far answer same appends is =
      absurd answer
  run_answers (Some input) (Some left) (Some rest) q u lines count t answer same appends is =
      let more_output = output-append t.outcomes (Ok lines.items ∷ []) in
      let more_reports = reports-append plan.name.now 0 t.outcomes (Ok lines.items ∷ []) in
      let more_rows = rows-append t.outcomes (Ok lines.items ∷ []) in
      let more_faults = faults-append t.outcomes (Ok lines.items ∷ []) in record {
        outcomes = t.outcomes ++ Ok lines.items ∷ [];
        answered = next_answered t.outcomes _ t.worker t.answered answer;
        worker = next_worker t.outcomes u (Ok lines.items) t.worker same;
        output = rw (more_output, append-nil) (appends_both o p q _ _ t.output appends);
        errors = rw (more_reports, append-nil) t.errors;
        counted = omega (arith, t.counted, length-append t.outcomes (Ok lines.items ∷ []));
        rows_are = omega (arith, t.rows_are, more_rows, is);
        faults_are = omega (arith, t.faults_are, more_faults);
        goes_on = goes_on_more plan t.outcomes (Ok lines.items) t.goes_on refl;
      }

  -- only a prefix of the rows was appended
  pub run_breaks : (input left new q : Known) (u : W) (lines : Vec ℕ Global)
      → IsSoFar rule after w v plan input left o p e f before rows faults
      → AnswersNext (rule v) plan.form left new (Rows lines)
      → u ≡ after_answer after v (Rows lines) → AppendsPrefix p q lines.items
      → IfSome input (λ i. BeginsRun (rule w) after w u plan i o q e f)
  run_breaks None left new q u lines so_far answer same appends = tt
  run_breaks (Some input) None new q u lines so_far answer same appends = absurd so_far
  run_breaks (Some input) (Some left) None q u lines so_far answer same appends = absurd answer
  run_breaks (Some input) (Some left) (Some rest) q u lines t answer same appends =
      let more_output = output-append t.outcomes (Ok lines.items ∷ []) in
      let more_reports = reports-append plan.name.now 0 t.outcomes (Ok lines.items ∷ []) in record {
        outcomes = t.outcomes ++ Ok lines.items ∷ [];
        rest = rest;
        answered = next_answered t.outcomes _ t.worker t.answered answer;
        worker = next_worker t.outcomes u (Ok lines.items) t.worker same;
        output = rw (more_output, append-nil) (prefix_after_all _ t.output appends);
        errors = rw (more_reports, append-nil) (prefix_of_all t.errors);
        stops = one_more_goes_on plan t.outcomes (Ok lines.items) t.goes_on;
      }

  one_report : (os : List Outcome) (fault : LineFault) → length os ≡ before
      → reports_of plan.name.now 0 (os ++ Err fault ∷ [])
      ≡ reports_of plan.name.now 0 os ++ fault_line plan.name.now (before + 1) fault
  one_report os fault counted =
      let number : suc (0 + length os) ≡ before + 1 = omega (arith, counted) in
      let same : reports_of plan.name.now (0 + length os) (Err fault ∷ [])
      ≡ fault_line plan.name.now (before + 1) fault =
      append-nil _ ∙ ap (λ n. fault_line plan.name.now n fault) number in
      reports-append plan.name.now 0 os (Err fault ∷ [])
      ∙ ap (λ r. reports_of plan.name.now 0 os ++ r) same

  -- a row is wrong, and was reported
  pub run_reports : (input left new q h : Known) (u : W) (fault : LineFault)
      → IsSoFar rule after w v plan input left o p e f before rows faults
      → AnswersNext (rule v) plan.form left new (Wrong fault)
      → u ≡ after_answer after v (Wrong fault) → Keeps p q
      → Appends f h (fault_line plan.name.now (before + 1) fault)
      → stops_at plan (Err fault) ≡ false
      → IsSoFar rule after w u plan input new o q e h (before + 1) rows (faults + 1)
  run_reports None left new q h u fault so_far answer same kept appends goes = tt
  run_reports (Some input) None new q h u fault so_far answer same kept appends goes = absurd so_far
  run_reports (Some input) (Some left) None q h u fault t answer same kept appends goes =
      absurd answer
  run_reports (Some input) (Some left) (Some rest) q h u fault t answer same kept appends goes =
      let more_output = output-append t.outcomes (Err fault ∷ []) in
      let more_rows = rows-append t.outcomes (Err fault ∷ []) in
      let more_faults = faults-append t.outcomes (Err fault ∷ []) in record {
        outcomes = t.outcomes ++ Err fault ∷ [];
        answered = next_answered t.outcomes _ t.worker t.answered answer;
        worker = next_worker t.outcomes u (Err fault) t.worker same;
        output = rw (more_output, append-nil)
            (Appends-kept o p q (output_of t.outcomes) t.output kept);
        errors = rw (one_report t.outcomes fault t.counted)
            (appends_both e f h _ _ t.errors appends);
        counted = omega (arith, t.counted, length-append t.outcomes (Err fault ∷ []));
        rows_are = omega (arith, t.rows_are, more_rows);
        faults_are = omega (arith, t.faults_are, more_faults);
        goes_on = goes_on_more plan t.outcomes (Err fault) t.goes_on goes;
      }

  -- the run ends at a row that is wrong, and was reported
  pub run_halts : (input left new q h : Known) (u : W) (fault : LineFault)
      → IsSoFar rule after w v plan input left o p e f before rows faults
      → AnswersNext (rule v) plan.form left new (Wrong fault)
      → u ≡ after_answer after v (Wrong fault) → Keeps p q
      → Appends f h (fault_line plan.name.now (before + 1) fault)
      → stops_at plan (Err fault) ≡ true
      → IfSome input (λ i. IsRun (rule w) after w u plan i o q e h
      (record { rows = rows; faults = faults + 1; is_stopped = true; lacks_input = false }))
  run_halts None left new q h u fault so_far answer same kept appends stops = tt
  run_halts (Some input) None new q h u fault so_far answer same kept appends stops = absurd so_far
  run_halts (Some input) (Some left) None q h u fault t answer same kept appends stops =
      absurd answer
  run_halts (Some input) (Some left) (Some rest) q h u fault t answer same kept appends stops =
      let more_output = output-append t.outcomes (Err fault ∷ []) in
      let more_rows = rows-append t.outcomes (Err fault ∷ []) in
      let more_faults = faults-append t.outcomes (Err fault ∷ []) in record {
        outcomes = t.outcomes ++ Err fault ∷ [];
        rest = rest;
        answered = next_answered t.outcomes _ t.worker t.answered answer;
        worker = next_worker t.outcomes u (Err fault) t.worker same;
        output = rw (more_output, append-nil)
            (Appends-kept o p q (output_of t.outcomes) t.output kept);
        errors = rw (one_report t.outcomes fault t.counted)
            (appends_both e f h _ _ t.errors appends);
        stops = one_more_goes_on plan t.outcomes (Err fault) t.goes_on;
        stopped = sym (stops_more plan t.outcomes (Err fault) stops);
        whole = λ on. absurd cc;
        rows = omega (arith, t.rows_are, more_rows);
        faults = omega (arith, t.faults_are, more_faults);
        lacks = refl;
      }

  -- only a prefix of the report was appended
  pub run_breaks_report : (input left new q h : Known) (u : W) (fault : LineFault)
      → IsSoFar rule after w v plan input left o p e f before rows faults
      → AnswersNext (rule v) plan.form left new (Wrong fault)
      → u ≡ after_answer after v (Wrong fault) → Keeps p q
      → AppendsPrefix f h (fault_line plan.name.now (before + 1) fault)
      → IfSome input (λ i. BeginsRun (rule w) after w u plan i o q e h)
  run_breaks_report None left new q h u fault so_far answer same kept appends = tt
  run_breaks_report (Some input) None new q h u fault so_far answer same kept appends =
      absurd so_far
  run_breaks_report (Some input) (Some left) None q h u fault t answer same kept appends =
      absurd answer
  run_breaks_report (Some input) (Some left) (Some rest) q h u fault t answer same kept appends =
      let more_output = output-append t.outcomes (Err fault ∷ []) in record {
        outcomes = t.outcomes ++ Err fault ∷ [];
        rest = rest;
        answered = next_answered t.outcomes _ t.worker t.answered answer;
        worker = next_worker t.outcomes u (Err fault) t.worker same;
        output = rw (more_output, append-nil)
            (prefix_of_all (Appends-kept o p q (output_of t.outcomes) t.output kept));
        errors = rw (one_report t.outcomes fault t.counted)
            (prefix_after_all _ t.errors appends);
        stops = one_more_goes_on plan t.outcomes (Err fault) t.goes_on;
      }

-- ---- the next row

-- a row was read and answered, or is cut off
pub next_rows : (rule : LineRule) (form : Form) (old new : Known) (row : List ℕ)
    (lines : Vec ℕ Global) → ReadsRow form old new row found.Row → rule row (Ok lines.items)
    → AnswersNext rule form old new (Rows lines)
next_rows rule form None new row lines read answer = tt
next_rows rule form (Some bytes) None row lines read answer = absurd read
next_rows rule form (Some bytes) (Some rest) row lines read answer = more read answer none

pub next_wrong : (rule : LineRule) (form : Form) (old new : Known) (row : List ℕ)
    (fault : LineFault) → ReadsRow form old new row found.Row → rule row (Err fault)
    → AnswersNext rule form old new (Wrong fault)
next_wrong rule form None new row fault read answer = tt
next_wrong rule form (Some bytes) None row fault read answer = absurd read
next_wrong rule form (Some bytes) (Some rest) row fault read answer = more read answer none

pub next_cut : (rule : LineRule) (form : Form) (old new : Known) (part : List ℕ)
    → ReadsRow form old new part found.Cut → AnswersNext rule form old new (Wrong (cut_after part))
next_cut rule form None new part read = tt
next_cut rule form (Some bytes) None part read = absurd read
next_cut rule form (Some bytes) (Some rest) part (is, ended) = rw ended (cut part is none)

-- at a row the input is no array
pub next_no_array : (rule : LineRule) (form : Form) (old new : Known) (part : List ℕ)
    (fault : ArrayFault) → ReadsRow form old new part (found.NoArray fault)
    → AnswersNext rule form old new (Wrong (no_array_after part fault))
next_no_array rule form None new part fault read = tt
next_no_array rule form (Some bytes) None part fault read = absurd read
next_no_array rule form (Some bytes) (Some rest) part fault read = no_array part fault read none

-- there is no row
pub next_none : (rule : LineRule) (form : Form) (old new : Known) (row : List ℕ)
    → ReadsRow form old new row found.End → AnswersNext rule form old new End
next_none rule form None new row read = tt
next_none rule form (Some bytes) None row read = absurd read
next_none rule form (Some bytes) (Some rest) row read = no_row row rest read none
