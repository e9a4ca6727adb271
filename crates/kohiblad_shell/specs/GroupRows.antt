-- The rows of groups.
use Rattle.std.specs.Prelude.{◌≡◌, ◌⊎◌, ◌++◌, ℕ, List, [], ◌∷◌, Option, None, Some}
use Rattle.std.specs.Prelude.{Result, Ok, Err, string_bytes}
use Rattle.jsonb.specs.Document.{tree_in}
use Rattle.jsonb_value.specs.Tree.{Tree, Pairs, no_pairs, number, object}
use Rattle.jsonb_path.specs.declared.path.PathError.{PathError}
use Rattle.jsonb_path.specs.declared.path.PathError.TheVariants as path_errors
use Rattle.kohiblad_shell.specs.Asked.{first_asked}
use Rattle.kohiblad_shell.specs.Groups.{Group}
use Rattle.kohiblad_shell.specs.Outcomes.{Outcome}
use Rattle.kohiblad_shell.specs.Templates.{IsBuilt, MemberValue, members_after}
use Rattle.kohiblad_shell.specs.declared.group.NamedAggregate.{NamedAggregate}
use Rattle.kohiblad_shell.specs.declared.group_rows.NamedPath.{NamedPath}
use Rattle.kohiblad_shell.specs.declared.input.Form.{Form}
use Rattle.kohiblad_shell.specs.declared.total.Total.{Total}
use Rattle.kohiblad_shell.specs.declared.total.Total.TheVariants.{Exact, OutOfRange}

-- The member of a value, if there is one.
abbrev pub member_if : List ℕ → Option Tree → List MemberValue
member_if name None = []
member_if name (Some t) = (name, Ok t) ∷ []

-- The members of the first values to which paths lead, under their names.
abbrev pub value_members : List NamedPath → Tree → List MemberValue
value_members [] t = []
value_members (named ∷ paths) t =
    member_if named.name.now (first_asked named.path.now.path t) ++ value_members paths t

-- The number that a sum is, or why there is none.
abbrev pub total_value : Total → Result Tree PathError
total_value (Exact n) = Ok (number n)
total_value OutOfRange = Err path_errors.OutOfRange

-- The members of sums, under the names of their aggregates.
abbrev pub total_members : List NamedAggregate → List Total → List MemberValue
total_members [] totals = []
total_members (a ∷ named) [] = []
total_members (a ∷ named) (total ∷ totals) =
    (string_bytes a.name, total_value total) ∷ total_members named totals

-- The object of these members.
abbrev pub object_of : Result Pairs PathError → Result Tree PathError
object_of (Ok ps) = Ok (object ps)
object_of (Err e) = Err e

-- The object of a group: the first values of its first row, and its sums.
abbrev pub group_object : List NamedPath → List NamedAggregate → Group → Result Tree PathError
group_object paths named g =
    object_of (members_after no_pairs
    (value_members paths (tree_in g.first) ++ total_members named g.totals))

-- The rows of these values, one after another, or the fault of the first that has none.
abbrev pub AreBuilt : Form → List (Result Tree PathError) → Outcome → Type 0
AreBuilt form [] outcome = outcome ≡ Ok []
AreBuilt form (r ∷ rs) (Ok rows) = (first rest : List ℕ) × IsBuilt form r (Ok first)
    × AreBuilt form rs (Ok rest) × (rows ≡ first ++ rest)
AreBuilt form (r ∷ rs) (Err fault) = IsBuilt form r (Err fault)
    ⊎ ((first : List ℕ) × IsBuilt form r (Ok first) × AreBuilt form rs (Err fault))
