-- The rows of sorted inputs, written in one order.
use Rattle.std.specs.Prelude.{◌≡◌, ◌<◌, ⊤, ℕ, suc, Bool, true, false, List, [], ◌∷◌, ◌++◌, Option}
use Rattle.std.specs.Prelude.{None, Some, IfSome, Ok, Err, IsPermutation, IsSorted, cond, flat_map}
use Rattle.std.specs.Prelude.{◌-◌, fold, length, map, option_to_list, replicate, slice_index_or}
use Rattle.std.specs.Cmp.Lexicographic.{slice_cmp}
use Rattle.std.specs.Io.KnownBytes.{Appends}
use Rattle.std.specs.Ordering.{is_ge, is_le, nat_cmp, on, then_cmp}
use Rattle.std.specs.declared.cmp.Ordering.{Ordering}
use Rattle.answer_lines.specs.Output.{AppendsPrefix}
use Rattle.kohiblad_shell.specs.declared.input.Form.{Form}
use Rattle.kohiblad_shell.specs.declared.merge.Head.{Head}
use Rattle.kohiblad_shell.specs.declared.merge.MergeEnd.{MergeEnd}
use Rattle.kohiblad_shell.specs.declared.merge.MergeEnd.TheVariants.{Halted, Faulty}
use Rattle.kohiblad_shell.specs.declared.outcome.LineFault.{LineFault}
use Rattle.kohiblad_shell.specs.declared.run.Answer.{Answer}
use Rattle.kohiblad_shell.specs.declared.run.Answer.TheVariants as answers
use Rattle.kohiblad_shell.specs.declared.outcome.Reason.TheVariants.{NotSorted}
use Rattle.kohiblad_shell.specs.Faults.{plain_fault}
use Rattle.kohiblad_shell.specs.Outcomes.{Answers, LineRule, Outcome}
use Rattle.kohiblad_shell.specs.Sorts.{key_and_line}

-- The parts of a row by which rows are in order.
abbrev pub head_key : Head → List ℕ
head_key head = head.key.items

abbrev pub head_input : Head → ℕ
head_input head = head.input

abbrev pub head_number : Head → ℕ
head_number head = head.number

-- The row as it is written.
abbrev pub head_line : Head → List ℕ
head_line head = head.line.items

-- The outcome of a row: its key, and the row.
abbrev pub head_outcome : Head → Outcome
head_outcome head = Ok (key_and_line head.key.items head.line.items)

-- Rows are in the order of their keys; those of one key in the order of their inputs, and those of
-- one input as they are.
abbrev pub head_cmp : Head → Head → Ordering
head_cmp = then_cmp (on head_key (slice_cmp nat_cmp))
    (then_cmp (on head_input nat_cmp) (on head_number nat_cmp))

-- The earlier one of two rows, of those that are there.
abbrev pub earlier : Option Head → Option Head → Option Head
earlier None other = other
earlier (Some first) None = Some first
earlier (Some first) (Some other) =
    cond (is_le (head_cmp first other)) (Some first) (Some other)

-- The first one of the rows that are there.
abbrev pub first_of : List (Option Head) → Option Head
first_of heads = fold earlier None heads

-- ---- the rows of an input

-- The number of the last row; 0 if there is none.
abbrev pub last_number : Option Head → ℕ
last_number None = 0
last_number (Some last) = last.number

-- So many rows that give nothing.
abbrev pub passed : ℕ → List Outcome
passed count = replicate count (Ok [])

-- Whether the key of a row is not below that of the last one.
abbrev pub stays_sorted : Option Head → Head → Bool
stays_sorted None head = true
stays_sorted (Some last) head = is_ge (slice_cmp nat_cmp head.key.items last.key.items)

-- The row, if there is one, comes after the last one of its input, and in its order.
abbrev pub StandsAt : ℕ → Option Head → Option Head → Type 0
StandsAt input last None = ⊤
StandsAt input last (Some head) = (head.input ≡ input)
    × ((last_number last < head.number) × (stays_sorted last head ≡ true))

-- The bytes hold no rows but such as give nothing.
pub record HasPassedOnly (rule : LineRule) (form : Form) (bytes : List ℕ) : Type 0 where
  pub count : ℕ
  pub answered : Answers rule form bytes (passed count) []

-- What a row gives, after those that give nothing and stand between it and the row before, by the
-- numbers of both.
abbrev pub outcomes_after : ℕ → ℕ → Outcome → List Outcome
outcomes_after before number outcome = passed (number - suc before) ++ outcome ∷ []

-- What is found by a search for a row that gives something, after one of this number: its number
-- and what it gives, or that there is none.
abbrev pub AnswersAfter : LineRule → Form → ℕ → List ℕ → List ℕ → ℕ → Answer → Type 0
AnswersAfter rule form before bytes rest number (answers.Rows rows) =
    Answers rule form bytes (outcomes_after before number (Ok rows.items)) rest
AnswersAfter rule form before bytes rest number (answers.Wrong fault) =
    Answers rule form bytes (outcomes_after before number (Err fault)) rest
AnswersAfter rule form before bytes rest number answers.End = HasPassedOnly rule form bytes

-- The same where the bytes are known.
abbrev pub FindsAnswer : LineRule → Form → ℕ → Option (List ℕ) → Option (List ℕ) → ℕ → Answer
    → Type 0
FindsAnswer rule form before None new number answer = ⊤
FindsAnswer rule form before (Some bytes) None number answer = ⊥
FindsAnswer rule form before (Some bytes) (Some rest) number answer =
    AnswersAfter rule form before bytes rest number answer

-- The next row that gives something was taken; none, if there is none.
abbrev pub TakesHead : LineRule → Form → Option Head → List ℕ → List ℕ → Option Head → Type 0
TakesHead rule form last bytes rest None = HasPassedOnly rule form bytes
TakesHead rule form last bytes rest (Some head) = Answers rule form bytes
    (outcomes_after (last_number last) head.number (head_outcome head)) rest

-- The same where the bytes are known.
abbrev pub NextHead : LineRule → Form → Option Head → Option (List ℕ) → Option (List ℕ)
    → Option Head → Type 0
NextHead rule form last None new next = ⊤
NextHead rule form last (Some bytes) None next = ⊥
NextHead rule form last (Some bytes) (Some rest) next = TakesHead rule form last bytes rest next

-- The fault of a row whose key is below that of the row before it.
abbrev pub not_sorted : LineFault
not_sorted = plain_fault 0 NotSorted

-- The row of this number, which comes after these, is wrong, or its key is below that of the last
-- one.
pub data IsFaultAfter (rule : LineRule) (form : Form) (bytes : List ℕ) (rows : List Outcome)
    (last : Option Head) (number : ℕ) (fault : LineFault) : Type 0 where
  wrong : (rest : List ℕ)
      → Answers rule form bytes (rows ++ outcomes_after (last_number last) number (Err fault)) rest
      → IsFaultAfter rule form bytes rows last number fault
  unsorted : (head : Head) (rest : List ℕ) → fault ≡ not_sorted → stays_sorted last head ≡ false
      → Answers rule form bytes
      (rows ++ outcomes_after (last_number last) number (head_outcome head)) rest
      → IsFaultAfter rule form bytes rows last number fault

-- A merge ends at a row after the last one of an input, if it ends at a fault.
abbrev pub IsFaultIn : LineRule → Form → Option (List ℕ) → ℕ → Option Head → MergeEnd → Type 0
IsFaultIn rule form old input last (Halted halt) = ⊤
IsFaultIn rule form old input last (Faulty at) = (at.input ≡ input)
    × ((last_number last < at.number)
    × IfSome old (λ bytes. IsFaultAfter rule form bytes [] last at.number at.fault))

-- ---- a merge

-- The rows are those of an input, and their numbers rise from above this one.
abbrev pub AreNumbered : ℕ → ℕ → List Head → Type 0
AreNumbered input before [] = ⊤
AreNumbered input before (head ∷ heads) = (head.input ≡ input)
    × ((before < head.number) × AreNumbered input head.number heads)

-- What the rows of an input give up to the last of these: nothing, where their numbers leave some
-- out.
abbrev pub outcomes_of : ℕ → List Head → List Outcome
outcomes_of before [] = []
outcomes_of before (head ∷ heads) =
    outcomes_after before head.number (head_outcome head) ++ outcomes_of head.number heads

-- An input begins with these rows, up to the rest, in which no row gives something if they are all.
pub record BeginsWith (rule : LineRule) (form : Form) (input : ℕ) (bytes : List ℕ)
    (rows : List Head) (are_all : Bool) : Type 0 where
  pub rest : List ℕ
  pub numbered : AreNumbered input 0 rows
  pub answered : Answers rule form bytes (outcomes_of 0 rows) rest
  pub whole : are_all ≡ true → HasPassedOnly rule form rest

-- The row, if there is one, may be written next.
abbrev pub MayFollow : List Head → Option Head → Type 0
MayFollow written None = ⊤
MayFollow written (Some head) = IsSorted head_cmp (written ++ head ∷ [])

-- The rows of these inputs that were written are in order, and those that were taken besides, one
-- of an input at most, come after them.
pub record Merges {R : Type 0} (remaining : R → Option (List ℕ)) (rule : LineRule) (form : Form)
    (readers : List R) (are_all : Bool) (rows : List (List Head)) (heads : List (Option Head))
    (written : List Head) : Type 0 where
  pub count : length rows ≡ length readers
  pub begins : (i : ℕ) (r : R) → i < length readers
      → IfSome (remaining (slice_index_or readers i r)) (λ bytes. BeginsWith rule form i bytes
      (slice_index_or rows i [] ++ option_to_list (slice_index_or heads i None)) are_all)
  pub follow : (i : ℕ) → i < length readers → MayFollow written (slice_index_or heads i None)
  pub none : are_all ≡ true
      → (i : ℕ) → i < length readers → slice_index_or heads i None ≡ None
  pub permutation : IsPermutation (flat_map (λ some. some) rows) written
  pub sorted : IsSorted head_cmp written

-- All rows of the readers were merged, and so many were written.
pub record IsWholeMerge {R : Type 0} (remaining : R → Option (List ℕ)) (rule : LineRule)
    (form : Form) (readers : List R) (old new : Option (List ℕ)) (count : ℕ) : Type 0 where
  pub rows : List (List Head)
  pub heads : List (Option Head)
  pub written : List Head
  pub merges : Merges remaining rule form readers true rows heads written
  pub output : Appends old new (flat_map head_line written)
  pub counted : count ≡ length written

-- The last one of some rows, if there is one.
abbrev pub last_of : List Head → Option Head
last_of [] = None
last_of (head ∷ []) = Some head
last_of (head ∷ (next ∷ heads)) = last_of (next ∷ heads)

-- A merge ended at the row after those that were written of an input, if it ended at a fault.
abbrev pub IsFaultOf : {R : Type 0} → (R → Option (List ℕ)) → LineRule → Form → List R
    → List (List Head) → MergeEnd → Type 0
IsFaultOf remaining rule form readers rows (Halted halt) = ⊤
IsFaultOf {R = R} remaining rule form readers rows (Faulty at) = (at.input < length readers)
    × ((last_number (last_of (slice_index_or rows at.input [])) < at.number)
    × ((r : R) → IfSome (remaining (slice_index_or readers at.input r)) (λ bytes.
    IsFaultAfter rule form bytes (outcomes_of 0 (slice_index_or rows at.input []))
    (last_of (slice_index_or rows at.input [])) at.number at.fault)))

-- Some rows at the beginning of each input were merged, and a prefix of them was written.
pub record BeginsMerge {R : Type 0} (remaining : R → Option (List ℕ)) (rule : LineRule)
    (form : Form) (readers : List R) (old new : Option (List ℕ)) (end : MergeEnd) : Type 0 where
  pub rows : List (List Head)
  pub heads : List (Option Head)
  pub written : List Head
  pub merges : Merges remaining rule form readers false rows heads written
  pub output : AppendsPrefix old new (flat_map head_line written)
  pub at : IsFaultOf remaining rule form readers rows end

-- ---- its beginning

-- No row of any of these inputs.
abbrev pub no_rows : {R : Type 0} → List R → List (List Head)
no_rows readers = map (λ reader. []) readers

-- These rows of an input were taken, where its bytes are known.
abbrev pub TakesRows : LineRule → Form → ℕ → Option (List ℕ) → Option (List ℕ) → List Head → Type 0
TakesRows rule form input None new rows = ⊤
TakesRows rule form input (Some bytes) None rows = ⊥
TakesRows rule form input (Some bytes) (Some rest) rows =
    AreNumbered input 0 rows × Answers rule form bytes (outcomes_of 0 rows) rest

-- What was taken of an input: these rows and the next one, or all its rows, where none is left.
abbrev pub IsTaken : LineRule → Form → ℕ → Option (List ℕ) → Option (List ℕ) → List Head
    → Option Head → Type 0
IsTaken rule form input old new rows None =
    IfSome old (λ bytes. BeginsWith rule form input bytes rows true)
IsTaken rule form input old new rows (Some head) =
    TakesRows rule form input old new (rows ++ head ∷ [])

-- The first row of each reader was taken.
pub record StartsMerge {R : Type 0} (remaining : R → Option (List ℕ)) (rule : LineRule)
    (form : Form) (old new : List R) (heads : List (Option Head)) : Type 0 where
  pub count : length heads ≡ length old
  pub taken : (i : ℕ) (r : R) → i < length old → IsTaken rule form i
      (remaining (slice_index_or old i r)) (remaining (slice_index_or new i r)) []
      (slice_index_or heads i None)
  pub place : (i : ℕ) → i < length old → StandsAt i None (slice_index_or heads i None)
