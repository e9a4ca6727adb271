-- What is reckoned of the rows of a group.
use Rattle.std.specs.Prelude.{◌≡◌, ◌&&◌, Bool, true, false, List, [], ◌∷◌, Option, None, Some}
use Rattle.std.specs.Prelude.{Result, Ok, Err, map, ⊤}
use Rattle.jsonb_value.specs.Tree.{Tree, null, number}
use Rattle.jsonb_value.specs.declared.number.Number.{Number}
use Rattle.jsonb_value.specs.declared.number.Number.TheVariants.{UInt64}
use Rattle.kohiblad_shell.specs.Asked.{first_asked}
use Rattle.kohiblad_shell.specs.Faults.{plain_fault}
use Rattle.kohiblad_shell.specs.declared.group.Aggregate.{Aggregate}
use Rattle.kohiblad_shell.specs.declared.group.Aggregate.TheVariants.{Count, Sum}
use Rattle.kohiblad_shell.specs.declared.group.NamedAggregate.{NamedAggregate}
use Rattle.kohiblad_shell.specs.declared.outcome.Reason.TheVariants.{NotOfType}
use Rattle.kohiblad_shell.specs.declared.outcome.Unanswered.{Unanswered}
use Rattle.kohiblad_shell.specs.declared.outcome.Unanswered.TheVariants.{Wrong, OutOfMemory}

-- The number that is a value; none if there is no value, or it is no number.
abbrev pub number_in : Option Tree → Option Number
number_in (Some (number n)) = Some n
number_in value = None

-- Whether a value may stand where numbers are summed: a number or null, or no value at all.
abbrev pub is_summed : Option Tree → Bool
is_summed None = true
is_summed (Some null) = true
is_summed (Some (number n)) = true
is_summed (Some t) = false

-- What a row adds to an aggregate: 1 to the number of rows, and to a sum the number at its path.
abbrev pub amount_of : Tree → Aggregate → Option Number
amount_of t Count = Some (UInt64 1)
amount_of t (Sum path) = number_in (first_asked path t)

-- Whether the value of a row is one that an aggregate takes.
abbrev pub is_fit : Tree → Aggregate → Bool
is_fit t Count = true
is_fit t (Sum path) = is_summed (first_asked path t)

-- What a row adds to each aggregate.
abbrev pub amounts_of : List NamedAggregate → Tree → List (Option Number)
amounts_of named t = map (λ a. amount_of t a.aggregate) named

-- Whether each value of a row is one that its aggregate takes.
abbrev pub are_fit : List NamedAggregate → Tree → Bool
are_fit [] t = true
are_fit (a ∷ named) t = is_fit t a.aggregate && are_fit named t

-- Values are not fit, and the row is not of its type; or there is not enough memory.
abbrev pub RefusesUnfit : Bool → Unanswered → Type 0
RefusesUnfit fits (Wrong fault) = (fits ≡ false) × (fault ≡ plain_fault 0 NotOfType)
RefusesUnfit fits OutOfMemory = ⊤

-- This is reckoned of values that are fit, and those that are not are refused.
abbrev pub Reckons : {A B : Type 0} → (A → B) → Bool → B → Result A Unanswered → Type 0
Reckons view fits value (Ok made) = (fits ≡ true) × (view made ≡ value)
Reckons view fits value (Err unanswered) = RefusesUnfit fits unanswered
