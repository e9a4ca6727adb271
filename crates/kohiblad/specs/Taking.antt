-- The members of rows as values of one type, as C receives them.
use Rattle.std.specs.Prelude.{◌≡◌, ◌<◌, ◌≤◌, ◌⊎◌, ◌∷◌, ◌++◌, [], ℕ, Bool, true, false}
use Rattle.std.specs.Prelude.{if◌then◌else◌, nat_le, zero, suc, ℤ, List, map, length}
use Rattle.std.specs.Prelude.{drop}
use Rattle.std.specs.List.{AllZip}
use Rattle.jsonb_value.specs.Meaning.{Meaning}
use Rattle.jsonb_value.specs.Tree as trees
use Rattle.jsonb_value.specs.Tree.{Tree}
use Rattle.jsonb_codec.specs.Doc.{Doc}
use Rattle.jsonb_functions.specs.Found.{found_at}
use Rattle.jsonb_functions.specs.declared.path.Step.{Step}
use Rattle.typed_vector.specs.Cells.{Cell, absent, value, other}
use Rattle.jsonb_typed.specs.Surveys.{member_cell}
use Rattle.jsonb_typed.specs.Types.{IsDecimalAt}
use Rattle.jsonb_typed.specs.declared.numbers.Fit.{Fit}
use Rattle.jsonb_typed.specs.declared.numbers.Fit.TheVariants.{ByValue, Exact}
use Rattle.kohiblad.specs.declared.taking.KohibladTaken.{KohibladTaken}
use Rattle.kohiblad.specs.declared.taking.Reading.{Reading}
use Rattle.kohiblad.specs.declared.taking.Reading.TheVariants.{Checked, Unchecked}
use Rattle.kohiblad.specs.declared.taken_values.KohibladInterval.{KohibladInterval}
use Rattle.kohiblad.specs.declared.taken_values.KohibladInt128.{KohibladInt128}
use Rattle.kohiblad.specs.declared.taken_values.KohibladTimestampTz.{KohibladTimestampTz}
use Rattle.kohiblad.specs.OverRows.{OverRows}
use Rattle.kohiblad.specs.RowCells.{row_cell}
use Rattle.kohiblad.specs.Scalars.{from_halves}
use Rattle.kohiblad.specs.Status.{no_room}

-- The state of a row whose member has no value: 2 for null, 3 for any other.
abbrev pub tree_state : Tree → ℕ
tree_state trees.null = 2
tree_state t = 3

-- The state of a row that is no document: 0 if it has no bytes, otherwise 4.
abbrev pub bytes_state : List ℕ → ℕ
bytes_state [] = 0
bytes_state (b ∷ bs) = 4

-- What is written for a row, a value and a state: 0 if there is no member, 1 beside the value that
-- stands for it, otherwise the state of a member without a value, and 4 for other bytes.
abbrev pub IsTakenCell : {V : Type 0} → (V → Tree → Type 0) → V → Cell Tree → V × ℕ → Type 0
IsTakenCell Stands blank absent taken = taken ≡ (blank, 0)
IsTakenCell {V = V} Stands blank (value t) taken =
    (Stands taken.0 t × (taken.1 ≡ 1))
    ⊎ (((v : V) → Stands v t → ⊥) × (taken ≡ (blank, tree_state t)))
IsTakenCell Stands blank (other bytes) taken = taken ≡ (blank, 4)

-- A value with the state 1, or none and any other state.
abbrev pub IsSomeTaken : {V : Type 0} → V → V × ℕ → Type 0
IsSomeTaken blank taken = (taken.1 ≡ 1) ⊎ ((taken.0 ≡ blank) × (taken.1 ≤ 4))

-- What is written for a row, by how it is read. It is checked; or it is not: then of a document the
-- same is written as if it were, of no bytes that there is no member, and of other bytes anything.
abbrev pub IsTakenBy : {V : Type 0} → (V → Tree → Type 0) → V → Reading → List Step → List ℕ
    → V × ℕ → Type 0
IsTakenBy Stands blank (Checked depth) path row taken =
    IsTakenCell Stands blank (row_cell depth path row) taken
IsTakenBy Stands blank Unchecked path row taken =
    ((t : Tree) → Doc row t → IsTakenCell Stands blank (member_cell (found_at path t)) taken)
    × ((row ≡ [] → taken ≡ (blank, 0)) × IsSomeTaken blank taken)

-- The values that are written for rows, and their states.
abbrev pub values_put : {V : Type 0} → List (V × ℕ) → List V
values_put taken = map (λ row. row.0) taken

abbrev pub states_of : {V : Type 0} → List (V × ℕ) → List ℕ
states_of taken = map (λ row. row.1) taken

-- How many rows have a member other than null, and no value, or are no document.
abbrev pub unfit_count : List ℕ → ℕ
unfit_count [] = 0
unfit_count (state ∷ states) =
    if nat_le 3 state then suc (unfit_count states) else unfit_count states

-- The number of the first of them; that of the rows if there is none.
abbrev pub first_unfit : List ℕ → ℕ
first_unfit [] = 0
first_unfit (state ∷ states) = if nat_le 3 state then 0 else suc (first_unfit states)

-- The rows that have these states, counted.
abbrev pub taken_answer : List ℕ → KohibladTaken
taken_answer states = record {
  status = 0;
  unfit = unfit_count states;
  first_unfit = first_unfit states;
}

-- A result with this status, and 0 in all fields.
abbrev pub not_taken : ℕ → KohibladTaken
not_taken status = record { status = status; unfit = 0; first_unfit = 0 }

-- The buffers of values and of states, before and after.
pub record Buffers (V : Type 0) : Type 0 where
  pub values : List V
  pub values_after : List V
  pub states : List ℕ
  pub states_after : List ℕ

-- The same of these buffers.
abbrev pub outputs : {V : Type 0} → List V → List V → List ℕ → List ℕ → Buffers V
outputs values values_after states states_after = record {
  values = values;
  values_after = values_after;
  states = states;
  states_after = states_after;
}

-- The buffers are unchanged.
abbrev pub AreKept : {V : Type 0} → Buffers V → Type 0
AreKept b = (b.values_after ≡ b.values) × (b.states_after ≡ b.states)

-- The values and states of these rows are at the start of the buffers, and the rest is unchanged.
abbrev pub ArePut : {V : Type 0} → List (V × ℕ) → Buffers V → Type 0
ArePut taken b = (b.values_after ≡ values_put taken ++ drop (length taken) b.values)
    × (b.states_after ≡ states_of taken ++ drop (length taken) b.states)

-- Each row is taken, as the relation says, and put into the buffers.
abbrev pub AreRowsPut : {R V : Type 0} → (R → V × ℕ → Type 0) → List R → Buffers V
    → List (V × ℕ) → Type 0
AreRowsPut IsTaken rows b taken = AllZip IsTaken rows taken × ArePut taken b

-- What is taken of these rows, each as the relation says, is put into the buffers. Too short a
-- buffer is refused.
abbrev pub AreRowsTaken : {R V : Type 0} → (R → V × ℕ → Type 0) → List R → Buffers V
    → KohibladTaken → Type 0
AreRowsTaken {V = V} IsTaken rows b answer =
    (((length b.values < length rows) ⊎ (length b.states < length rows))
    × ((answer ≡ not_taken no_room) × AreKept b))
    ⊎ (((length rows ≤ length b.values) × (length rows ≤ length b.states))
    × ((taken : List (V × ℕ))
    × (AreRowsPut IsTaken rows b taken × (answer ≡ taken_answer (states_of taken)))))

-- The members of the rows are taken, at the end of the path and of each row as the relation says.
abbrev pub AreTaken : {V : Type 0} → (List Step → List ℕ → V × ℕ → Type 0) → List ℕ → List ℕ
    → Meaning → Buffers V → KohibladTaken → Type 0
AreTaken IsTaken bytes offsets path b answer =
    OverRows (λ status. (answer ≡ not_taken status) × AreKept b)
    (λ rows steps. AreRowsTaken (IsTaken steps) rows b answer) bytes offsets path

-- When a number fits, by the number that a caller gives: 0 is by value.
abbrev pub fit_of : ℕ → Fit
fit_of zero = ByValue
fit_of (suc n) = Exact

-- The whole number of both halves.
abbrev pub int128_whole : KohibladInt128 → ℤ
int128_whole v = from_halves v.high v.low

-- The two halves are those of a value that stands for the member.
abbrev pub IsInt128 : Fit → ℕ → KohibladInt128 → Tree → Type 0
IsInt128 fit scale v t = IsDecimalAt fit scale (int128_whole v) t

-- A truth value as a byte.
abbrev pub truth_byte : Bool → ℕ
truth_byte true = 1
truth_byte false = 0

-- The byte stands for the member, a truth value.
abbrev pub IsTruth : ℕ → Tree → Type 0
IsTruth v t = (b : Bool) × ((v ≡ truth_byte b) × (t ≡ trees.boolean b))

-- The number stands for the member, a date.
abbrev pub IsDate : ℤ → Tree → Type 0
IsDate v t = t ≡ trees.extension (trees.date (record { value = v }))

-- The number stands for the member, a timestamp without a time zone.
abbrev pub IsTimestamp : ℤ → Tree → Type 0
IsTimestamp v t = t ≡ trees.extension (trees.timestamp (record { value = v }))

-- The number and the offset stand for the member, a timestamp with a time zone.
abbrev pub IsZonedTimestamp : KohibladTimestampTz → Tree → Type 0
IsZonedTimestamp v t =
    t ≡ trees.extension (trees.timestamp_tz (record { offset = v.seconds; value = v.value }))

-- The three numbers stand for the member, an interval.
abbrev pub IsIntervalIn : KohibladInterval → Tree → Type 0
IsIntervalIn v t =
    t
    ≡ trees.extension
    (trees.interval (record { months = v.months; days = v.days; micros = v.micros }))
