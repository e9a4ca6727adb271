-- The members of an object that are picked by their keys.
use Rattle.std.specs.Prelude.{ℕ, List, Bool, not, if◌then◌else◌}
use Rattle.std.specs.Borrow.{Bor}
use Rattle.std.specs.Cmp.Lexicographic.{slice_cmp}
use Rattle.std.specs.List.{list_any}
use Rattle.std.specs.List.Sorted.{IsSorted}
use Rattle.std.specs.Ordering.{nat_cmp}
use Rattle.std.specs.Str.{bytes_eq}
use Rattle.jsonb_value.specs.Tree.{Tree, object, Pairs, no_pairs, pair}
use Rattle.jsonb_functions.specs.declared.choice.Kept.{Kept}
use Rattle.jsonb_functions.specs.declared.choice.Kept.TheVariants.{Named, Others}

-- The key is one of the names.
abbrev pub is_named : List (Bor (List ℕ)) → List ℕ → Bool
is_named names k = list_any (λ name. bytes_eq name.now k) names

-- Members are kept if their keys are named, or if they are not.
abbrev pub keeps : Kept → Bool → Bool
keeps Named named = named
keeps Others named = not named

-- The pairs that are kept, in their order.
abbrev pub picked_pairs : List (Bor (List ℕ)) → Kept → Pairs → Pairs
picked_pairs names which no_pairs = no_pairs
picked_pairs names which (pair k t ps) =
    if keeps which (is_named names k) then pair k t (picked_pairs names which ps)
    else picked_pairs names which ps

-- The object of the pairs that are kept; any other tree is as it was.
abbrev pub picked : List (Bor (List ℕ)) → Kept → Tree → Tree
picked names which (object ps) = object (picked_pairs names which ps)
picked names which t = t

-- The names are in the order of their bytes.
abbrev pub AreSorted : List (Bor (List ℕ)) → Type 0
AreSorted names = IsSorted (λ x y. slice_cmp nat_cmp x.now y.now) names
