-- How many steps it takes to find out what a tree contains, and whether that needs memory.
use Rattle.std.specs.Prelude.{ℕ, suc, ◌+◌, ◌&&◌, ◌||◌, ◌==◌, Bool, true, false, not, nat_lt}
use Rattle.std.specs.Prelude.{if◌then◌else◌, List, length}
use Rattle.std.specs.Cmp.Lexicographic.{slice_cmp}
use Rattle.std.specs.Ordering.{is_eq, is_lt, nat_cmp}
use Rattle.jsonb_value.specs.Order.{extension_data}
use Rattle.jsonb_value.specs.Tree.{Tree, text, extension, array, object}
use Rattle.jsonb_value.specs.Tree.{Trees, no_trees, tree, count, Pairs, no_pairs, pair}
use Rattle.jsonb_functions.specs.Contains.{contained, some_tree}
use Rattle.jsonb_functions.specs.Weight.{weight}

-- What a search takes: so many steps, and memory if it sorts.
pub record Work : Type 0 where
  pub steps : ℕ
  pub sorts : Bool

-- So many steps alone.
abbrev pub steps_alone : ℕ → Work
steps_alone n = record { steps = n; sorts = false }

-- The one and the other.
abbrev pub both : Work → Work → Work
both first second = record {
  steps = first.steps + second.steps;
  sorts = first.sorts || second.sorts;
}

-- The one, and the other only if the search goes on.
abbrev pub and_on : Bool → Work → Work → Work
and_on true first second = both first second
and_on false first second = first

-- The length of both, if it is the same, and otherwise 0.
abbrev pub shared_length : List ℕ → List ℕ → ℕ
shared_length a b = if length a == length b then length a else 0

-- The steps to compare two values, of which one at least is no array and no object: one, and one
-- for each byte of two texts, or of two values with data, that are equally long.
abbrev pub compare_steps : Tree → Tree → ℕ
compare_steps (text a) (text b) = suc (shared_length a b)
compare_steps (extension x) (extension y) =
    suc (shared_length (extension_data x) (extension_data y))
compare_steps t u = 1

-- Whether a tree is no array and no object.
abbrev pub is_scalar : Tree → Bool
is_scalar (array ts) = false
is_scalar (object ps) = false
is_scalar t = true

-- The weight of those of the trees that are no arrays and no objects.
abbrev pub scalar_weight : Tree → ℕ
scalar_weight t = if is_scalar t then weight t else 0

abbrev pub scalar_weights : Trees → ℕ
scalar_weights no_trees = 0
scalar_weights (tree t ts) = scalar_weight t + scalar_weights ts

-- Whether the scalars of an array are sorted: more than 16 items are looked for in more than 16.
abbrev pub are_many : ℕ → ℕ → Bool
are_many wanted there = nat_lt 16 wanted && nat_lt 16 there

-- To sort the scalars takes their weight in steps, and memory.
abbrev pub sort_work : Bool → Trees → Work
sort_work true ts = record { steps = scalar_weights ts; sorts = true }
sort_work false ts = steps_alone 0

-- One tree after the other, up to the first that passes the test.
abbrev pub work_until : (Tree → Bool) → (Tree → Work) → Trees → Work
work_until passes work no_trees = steps_alone 0
work_until passes work (tree t ts) =
    and_on (not (passes t)) (work t) (work_until passes work ts)

-- A scalar is looked for among sorted ones for its weight in steps, and everything else in one item
-- after the other.
abbrev pub find_work : Bool → Tree → (Tree → Work) → Trees → Work
find_work sorted u work ts =
    if sorted && is_scalar u then steps_alone (weight u)
    else work_until (λ t. contained u t) work ts

-- The members from the first whose key is not below a key.
abbrev pub from_key : List ℕ → Pairs → Pairs
from_key k no_pairs = no_pairs
from_key k (pair j t ps) =
    if is_lt (slice_cmp nat_cmp j k) then from_key k ps else pair j t ps

-- The steps to pass the members up to that one: one for each, and one for each byte of its key.
abbrev pub passing_steps : List ℕ → Pairs → ℕ
passing_steps k no_pairs = 0
passing_steps k (pair j t ps) =
    suc (length j) + (if is_lt (slice_cmp nat_cmp j k) then passing_steps k ps else 0)

-- The first of these members is compared if its key is this one, and the search goes on with those
-- after it if its value passes the test.
abbrev pub first_work : List ℕ → (Tree → Bool) → (Tree → Work) → (Pairs → Work) → Pairs → Work
first_work k passes work later no_pairs = steps_alone 0
first_work k passes work later (pair j t ps) =
    if is_eq (slice_cmp nat_cmp j k) then and_on (passes t) (work t) (later ps)
    else steps_alone 0

abbrev mutual
  -- What it takes to find out whether the first tree is contained in the second.
  pub contained_work : Tree → Tree → Work
  contained_work (array us) (array ts) = both (steps_alone 1)
      (both (sort_work (are_many (count us) (count ts)) ts)
      (items_work (are_many (count us) (count ts)) us ts))
  contained_work (object qs) (object ps) = both (steps_alone 1) (members_work qs ps)
  contained_work u t = steps_alone (compare_steps t u)

  -- The same for each of the first trees, up to one that is in none of the others, of which the
  -- scalars may be sorted.
  pub items_work : Bool → Trees → Trees → Work
  items_work sorted no_trees ts = steps_alone 0
  items_work sorted (tree u us) ts = and_on (some_tree (λ t. contained u t) ts)
      (find_work sorted u (λ t. contained_work u t) ts) (items_work sorted us ts)

  -- The same for each of the first members, up to one that the others lack: both are passed in the
  -- order of their keys.
  pub members_work : Pairs → Pairs → Work
  members_work no_pairs ps = steps_alone 0
  members_work (pair k u qs) ps = both (steps_alone (passing_steps k ps))
      (first_work k (λ t. contained u t) (λ t. contained_work u t) (λ left. members_work qs left)
      (from_key k ps))

-- What it takes to find out whether the first document contains the second: a scalar may also be
-- an item of an array.
abbrev pub contains_work : Tree → Tree → Work
contains_work (array ts) (array us) = contained_work (array us) (array ts)
contains_work (array ts) (object qs) = contained_work (object qs) (array ts)
contains_work (array ts) u = work_until (λ t. contained u t) (λ t. contained_work u t) ts
contains_work t u = contained_work u t
