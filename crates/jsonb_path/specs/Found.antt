-- What walks over values find, as outcomes.
use Rattle.std.specs.Prelude.{◌≡◌, ◌++◌, ◌∷◌, [], ◌-ℤ◌, pos, ⊤, ℕ, List, map}
use Rattle.std.specs.Prelude.{Bool, true, false, if◌then◌else◌, Option, None, Some, Result, Ok, Err}
use Rattle.jsonb_value.specs.declared.number.Number.{Number}
use Rattle.jsonb_value.specs.Order.{fraction_of}
use Rattle.jsonb_value.specs.Tree.{Tree, number, text}
use Rattle.jsonb.specs.declared.node.Node.{Node}
use Rattle.jsonb.specs.EntryTrees.{rest_trees}
use Rattle.jsonb.specs.Node.{node_tree, member_tree}
use Rattle.jsonb_path.specs.declared.compare.Truth.{Truth}
use Rattle.jsonb_path.specs.declared.compare.Truth.TheVariants.{True, Unknown}
use Rattle.jsonb_path.specs.declared.number.NumberError.{NumberError}
use Rattle.jsonb_path.specs.declared.outcome.Outcome.{Outcome}
use Rattle.jsonb_path.specs.declared.outcome.WalkError.{WalkError}
use Rattle.jsonb_path.specs.declared.outcome.WalkError.TheVariants.{Failed, OutOfMemory}
use Rattle.jsonb_path.specs.declared.pairs.Check.{Check}
use Rattle.jsonb_path.specs.declared.pairs.Check.TheVariants as checks
use Rattle.jsonb_path.specs.declared.path.Method.{Method}
use Rattle.jsonb_path.specs.declared.path.Method.TheVariants as methods
use Rattle.jsonb_path.specs.declared.path.Mode.{Mode}
use Rattle.jsonb_path.specs.declared.path.Mode.TheVariants.{Lax, Strict}
use Rattle.jsonb_path.specs.declared.path.PathError.{PathError}
use Rattle.jsonb_path.specs.declared.path.PathError.TheVariants as errors
use Rattle.jsonb_path.specs.declared.place.Place.{Place}
use Rattle.jsonb_path.specs.declared.place.Units.{Units}
use Rattle.jsonb_path.specs.declared.place.Units.TheVariants.{Itself, Items}
use Rattle.jsonb_path.specs.Arithmetic.{ceiling_of, floor_of, number_within, unsigned}
use Rattle.jsonb_path.specs.Comparison.{Comparand, comparand_of, compares, either, starts_with}
use Rattle.jsonb_path.specs.Meaning as meaning
use Rattle.jsonb_path.specs.Syntax.{Predicate, Subscripts}

-- The trees of an outcome's values, and its error.
abbrev pub outcome_of : Outcome → meaning.Outcome
outcome_of o = record { values = map node_tree o.values.items; error = o.error }

-- The place in trees.
abbrev pub place_of : Place → meaning.Place
place_of place = record {
  mode = place.mode;
  forgives = place.forgives;
  root = node_tree place.root;
  current = node_tree place.current;
  last = pos place.count -ℤ pos 1;
  variables = map member_tree place.variables.now;
}

-- The trees of the values that are still to be asked.
abbrev pub left_of : Units → List Tree
left_of (Itself None) = []
left_of (Itself (Some node)) = node_tree node ∷ []
left_of (Items items) = rest_trees items

-- Values with an end or an error.
abbrev pub ended : List Tree → Option PathError → meaning.Outcome
ended ts e = record { values = ts; error = e }

-- The values found before, and after them those of an outcome with its error.
abbrev pub found_then : List Node → meaning.Outcome → meaning.Outcome
found_then found o = record { values = map node_tree found ++ o.values; error = o.error }

-- A walk appended what the outcome gives, and failed by its error if it has one. Nothing is said
-- where memory ran out.
abbrev pub Finds : List Node → List Node → Result (Unit {0}) WalkError → meaning.Outcome
    → Type 0
Finds old new (Ok a) o = found_then new (meaning.gives []) ≡ found_then old o
Finds old new (Err (Failed e)) o = found_then new (meaning.fails e) ≡ found_then old o
Finds old new (Err OutOfMemory) o = ⊤

-- The value of a member, and its name as a text.
abbrev pub value_tree : List ℕ × Tree → Tree
value_tree member = member.1

abbrev pub name_tree : List ℕ × Tree → Tree
name_tree member = text member.0

-- The number that a value is, and that of a list of this alone.
abbrev pub number_in : Tree → Option Number
number_in (number x) = Some x
number_in t = None

abbrev pub lone_number : List Tree → Option Number
lone_number [] = None
lone_number (t ∷ []) = number_in t
lone_number (t ∷ u ∷ us) = None

-- The number that a method makes of one: without its sign, where it does not round.
abbrev pub rounded : Method → Number → Result Number NumberError
rounded methods.Floor x = number_within (record { value = floor_of (fraction_of x); scale = 0 })
rounded methods.Ceiling x = number_within (record { value = ceiling_of (fraction_of x); scale = 0 })
rounded m x = number_within (unsigned (fraction_of x))

-- What a method gives of each value that it is asked of: without its sign, if nothing else is said.
abbrev pub answered : Method → Tree → meaning.Outcome
answered methods.MemberNames t = meaning.pairs_in meaning.keys_of t
answered methods.MemberValues t = meaning.pairs_in meaning.values_of t
answered m t = meaning.of_number errors.NonNumericItem (λ x. meaning.calculated (rounded m x)) t

-- What two values are asked.
abbrev pub checked_as : Check → Comparand → Comparand → Truth
checked_as (checks.Compare c) v w = compares c v w
checked_as checks.StartsWith v w = starts_with v w

abbrev pub checked : Check → Tree → Tree → Truth
checked check t u = checked_as check (comparand_of t) (comparand_of u)

-- Whether a pair of two lists passes: in strict it is unknown if either is.
abbrev pub either_in : Mode → Truth → Truth → Truth
either_in Lax t u = either t u
either_in Strict Unknown u = Unknown
either_in Strict t Unknown = Unknown
either_in Strict t u = either t u

-- The truth stays whatever pairs come after it.
abbrev pub settles : Mode → Truth → Bool
settles Lax True = true
settles Strict Unknown = true
settles mode t = false

-- The value if a test holds where it is asked.
abbrev pub filtered_by : meaning.Place → Predicate → Tree → meaning.Outcome
filtered_by place p u =
    meaning.gives (if meaning.is_true (meaning.judge (record place { current = u }) p) then u ∷ []
    else [])

-- The items that subscripts name, of what has items.
abbrev pub selected_in : meaning.Place → Subscripts → Option (List Tree) → meaning.Outcome
selected_in place named None = meaning.gives []
selected_in place named (Some ts) = meaning.select place named ts
