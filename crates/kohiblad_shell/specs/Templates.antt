-- What a template makes of a row.
use Rattle.std.specs.Prelude.{◌≡◌, ℕ, List, [], ◌∷◌, ◌++◌, Option, None, Some, Result, Ok, Err, ⊤}
use Rattle.std.specs.Prelude.{String, map, string_bytes}
use Rattle.std.specs.declared.alloc.Global.{Global}
use Rattle.jsonb_value.specs.Tree.{Tree, null, array, object, Pairs, no_pairs}
use Rattle.jsonb_value.specs.Value.{trees_of}
use Rattle.jsonb_functions.specs.Joined.{with_key}
use Rattle.jsonb_path.specs.declared.path.PathError.{PathError}
use Rattle.jsonb_path.specs.declared.path.PathError.TheVariants.{SingletonRequired}
use Rattle.jsonb_path.specs.PathParts.{PathParts}
use Rattle.kohiblad_shell.specs.declared.input.Form.{Form}
use Rattle.kohiblad_shell.specs.declared.outcome.Reason.TheVariants.{GivenUp}
use Rattle.kohiblad_shell.specs.declared.outcome.Unanswered.{Unanswered}
use Rattle.kohiblad_shell.specs.declared.outcome.Unanswered.TheVariants.{Wrong, OutOfMemory}
use Rattle.kohiblad_shell.specs.declared.template.Template.{Template, fold-Template}
use Rattle.kohiblad_shell.specs.declared.template.Template.TheOpen.{Template-F}
use Rattle.kohiblad_shell.specs.Asked.{asked}
use Rattle.kohiblad_shell.specs.Faults.{plain_fault}
use Rattle.kohiblad_shell.specs.Made.{IsMade}
use Rattle.kohiblad_shell.specs.Outcomes.{Outcome}

-- Values in order, or the error by which a path is given up.
abbrev pub Values : Type 0
Values = Result (List Tree) PathError

-- These values, unless a path is given up.
abbrev pub unless_given_up : Option PathError → List Tree → Values
unless_given_up None ts = Ok ts
unless_given_up (Some e) ts = Err e

-- The values that a path gives.
abbrev pub path_values : PathParts → Tree → Values
path_values path t = unless_given_up (asked path t).error (asked path t).values

-- One value.
abbrev pub lone : Tree → Values
lone t = Ok (t ∷ [])

-- These values, and after them all of the others, in order.
abbrev pub all_after : List Tree → List Values → Values
all_after ts [] = Ok ts
all_after ts (Ok us ∷ more) = all_after (ts ++ us) more
all_after ts (Err e ∷ more) = Err e

-- The one of these values, or null if there is none.
abbrev pub one_of : List Tree → Result Tree PathError
one_of [] = Ok null
one_of (t ∷ []) = Ok t
one_of (t ∷ u ∷ us) = Err SingletonRequired

-- The same unless a path is given up.
abbrev pub one_value : Values → Result Tree PathError
one_value (Ok ts) = one_of ts
one_value (Err e) = Err e

-- A name, and the one value at it.
abbrev pub MemberValue : Type 0
MemberValue = List ℕ × Result Tree PathError

-- These members, and among them the others, of which the last one of a name counts.
abbrev pub members_after : Pairs → List MemberValue → Result Pairs PathError
members_after ps [] = Ok ps
members_after ps ((k, Ok t) ∷ more) = members_after (with_key k t ps) more
members_after ps ((k, Err e) ∷ more) = Err e

-- The names, each with its one value.
abbrev pub member_values : List (String Global × Values) → List MemberValue
member_values ms = map (λ m. (string_bytes m.0, one_value m.1)) ms

-- The array of all these values.
abbrev pub array_value : Values → Values
array_value (Ok ts) = lone (array (trees_of ts))
array_value (Err e) = Err e

-- The object of all these members.
abbrev pub object_value : Result Pairs PathError → Values
object_value (Ok ps) = lone (object ps)
object_value (Err e) = Err e

-- The values that one level of a template gives of a row, where the inner ones are given already.
abbrev pub level_values : Tree → Template-F Values → Values
level_values t (Template-F.Path path) = path_values path t
level_values t (Template-F.Array items) = array_value (all_after [] items.items)
level_values t (Template-F.Object members) =
    object_value (members_after no_pairs (member_values members.items))

-- The values that a template gives of a row.
abbrev pub template_values : Tree → Template → Values
template_values t = fold-Template Values (level_values t)

-- The members of templates, each with its one value.
abbrev pub member_views : (Template → Values) → List (String Global × Template) → List MemberValue
member_views values ms = member_values (map (λ m. (m.0, values m.1)) ms)

-- The value that a template makes of a row: null if it gives none.
abbrev pub built : Template → Tree → Result Tree PathError
built template t = one_value (template_values t template)

-- The row of a value, unless a path is given up.
abbrev pub IsBuilt : Form → Result Tree PathError → Outcome → Type 0
IsBuilt form (Ok t) outcome = IsMade form t outcome
IsBuilt form (Err e) outcome = outcome ≡ Err (plain_fault 0 (GivenUp e))

-- A path is given up by the error of the fault, or there is not enough memory.
abbrev pub IsStoppedBy : {B : Type 0} → Result B PathError → Unanswered → Type 0
IsStoppedBy r (Wrong fault) =
    (e : PathError) × ((r ≡ Err e) × (fault ≡ plain_fault 0 (GivenUp e)))
IsStoppedBy r OutOfMemory = ⊤

-- What was made means this in the view, unless the making was stopped.
abbrev pub GivesAs : {A B : Type 0} → (A → B) → Result B PathError → Result A Unanswered → Type 0
GivesAs view r (Ok a) = r ≡ Ok (view a)
GivesAs view r (Err unanswered) = IsStoppedBy r unanswered
