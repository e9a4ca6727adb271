-- The values that a walk down has still to visit.
use Rattle.std.specs.Prelude.{ℕ, suc, List, [], ◌∷◌, ◌++◌, map, Option, None, Some}
use Rattle.jsonb_value.specs.Tree.{Tree, array, object}
use Rattle.jsonb.specs.EntryTrees.{rest_pairs, rest_trees}
use Rattle.jsonb_path.specs.declared.descend.Children.{Children}
use Rattle.jsonb_path.specs.declared.descend.Children.TheVariants.{Items, Members}
use Rattle.jsonb_path.specs.declared.path.Level.{Level}
use Rattle.jsonb_path.specs.Found.{value_tree}
use Rattle.jsonb_path.specs.Meaning.{below, list_of, meant, values_of}

-- The trees of the children that are still to be visited.
abbrev pub children_left : Children → List Tree
children_left (Items items) = rest_trees items
children_left (Members members) = map value_tree (rest_pairs members)

-- The children of an array or object; none of a scalar.
abbrev pub children_of : Tree → Option (List Tree)
children_of (array ts) = Some (list_of ts)
children_of (object ps) = Some (values_of ps)
children_of t = None

-- What values at one level give, each before those below it.
abbrev pub below_all : Level → Level → ℕ → List Tree → List Tree
below_all a b level [] = []
below_all a b level (t ∷ ts) =
    meant a b (suc level) t ++ (below a b (suc level) t ++ below_all a b level ts)

-- What the children of each level give, those of the last level first.
abbrev pub stack_below : Level → Level → ℕ → List (List Tree) → List Tree
stack_below a b level [] = []
stack_below a b level (ts ∷ stack) = stack_below a b (suc level) stack ++ below_all a b level ts
