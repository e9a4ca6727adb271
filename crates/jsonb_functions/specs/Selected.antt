-- What a path with wildcards selects.
use Rattle.std.specs.Prelude.{ℕ, suc, ◌-◌, min, List, [], ◌∷◌, length, map, take, drop, flat_map}
use Rattle.std.specs.Prelude.{Option, None, Some, option_to_list}
use Rattle.jsonb_value.specs.Tree.{Tree, object}
use Rattle.jsonb.specs.Node.{pair_list, tree_list}
use Rattle.jsonb_functions.specs.declared.path.Step.{Step}
use Rattle.jsonb_functions.specs.declared.path.Step.TheVariants as steps
use Rattle.jsonb_functions.specs.declared.selection.Bound.{Bound}
use Rattle.jsonb_functions.specs.declared.selection.Bound.TheVariants as bounds
use Rattle.jsonb_functions.specs.declared.selection.Selector.{Selector}
use Rattle.jsonb_functions.specs.declared.selection.Selector.TheVariants as selectors
use Rattle.jsonb_functions.specs.Contains.{items_or_none}
use Rattle.jsonb_functions.specs.Filter.{filtered}
use Rattle.jsonb_functions.specs.Found.{child_at}

-- How many of n items are before a bound.
abbrev pub items_before : Bound → ℕ → ℕ
items_before (bounds.FromStart i) n = min i n
items_before (bounds.FromEnd i) n = n - suc i
items_before bounds.End n = n

-- How many of n items are up to a bound, with the item there.
abbrev pub items_through : Bound → ℕ → ℕ
items_through (bounds.FromStart i) n = min (suc i) n
items_through (bounds.FromEnd i) n = n - i
items_through bounds.End n = n

-- The items from the first bound to the last one.
abbrev pub trees_between : Bound → Bound → List Tree → List Tree
trees_between first last ts =
    drop (items_before first (length ts)) (take (items_through last (length ts)) ts)

-- The values of an object's members; none of any other tree.
abbrev pub member_trees : Tree → List Tree
member_trees (object ps) = map (λ p. p.1) (pair_list ps)
member_trees t = []

-- The step to an item at an index.
abbrev pub step_at : Bound → Step
step_at (bounds.FromStart i) = steps.Index i
step_at (bounds.FromEnd i) = steps.FromEnd i
step_at bounds.End = steps.End

-- The items at indexes, in the order of these, of an array that has them.
abbrev pub trees_at : List Bound → Tree → List Tree
trees_at indexes t = flat_map (λ index. option_to_list (child_at (step_at index) t)) indexes

-- The children that a selector leads to, in the order in which they are stored, or of the indexes;
-- a filter leads to the tree itself.
abbrev pub children_at : Selector → Tree → List Tree
children_at (selectors.Step s) t = option_to_list (child_at s t)
children_at selectors.AllItems t = tree_list (items_or_none t)
children_at selectors.AllMembers t = member_trees t
children_at (selectors.Range first last) t = trees_between first last (tree_list (items_or_none t))
children_at (selectors.Indexes indexes) t = trees_at indexes.items t
children_at (selectors.Filter condition) t = filtered condition t

-- What is at the ends of all ways that a path allows, in the order in which these lead to it.
abbrev pub selected : List Selector → Tree → List Tree
selected [] t = t ∷ []
selected (s ∷ path) t = flat_map (λ u. selected path u) (children_at s t)

-- The first tree, if there is one.
abbrev pub first_tree : List Tree → Option Tree
first_tree [] = None
first_tree (t ∷ ts) = Some t

-- The indexes of a list; none of any other selector.
abbrev pub indexes_of : Selector → List Bound
indexes_of (selectors.Indexes indexes) = indexes.items
indexes_of s = []
