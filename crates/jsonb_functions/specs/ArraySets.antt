-- Arrays as sets of values, in which equal values are counted.
use Rattle.std.specs.Prelude.{ℕ, suc, Bool, true, false, not, nat_lt, ◌==◌, ◌||◌, if◌then◌else◌}
use Rattle.std.specs.Ordering.{eq_by_cmp}
use Rattle.jsonb_value.specs.Tree.{Tree, array, Trees, no_trees, tree}
use Rattle.jsonb_value.specs.TreeOrder.{tree_cmp}
use Rattle.jsonb_functions.specs.Joined.{items_or_one}

-- Neither value is greater in the order of values.
abbrev pub are_equal : Tree → Tree → Bool
are_equal = eq_by_cmp tree_cmp

-- How many of the items are equal to a value.
abbrev pub equals : Tree → Trees → ℕ
equals t no_trees = 0
equals t (tree u us) = if are_equal t u then suc (equals t us) else equals t us

-- The items of the second list that pass a test: on how many equals they have before them, which
-- begin with the first list, and on how many they have in the third.
abbrev pub items_by_counts : (ℕ → ℕ → Bool) → Trees → Trees → Trees → Trees
items_by_counts test before no_trees us = no_trees
items_by_counts test before (tree t ts) us =
    if test (equals t before) (equals t us) then tree t (items_by_counts test (tree t before) ts us)
    else items_by_counts test (tree t before) ts us

-- An item has no equal before it.
abbrev pub is_first : ℕ → ℕ → Bool
is_first before there = before == 0

-- An item has fewer equals before it than there are in the other array, or it has not.
abbrev pub is_matched : Bool → ℕ → ℕ → Bool
is_matched true before there = nat_lt before there
is_matched false before there = not (nat_lt before there)

-- The first of equal items each.
abbrev pub distinct_items : Trees → Trees
distinct_items ts = items_by_counts is_first no_trees ts no_trees

-- The items of the first list for which the second has an equal that no item before them took, or
-- the others.
abbrev pub matched_items : Bool → Trees → Trees → Trees
matched_items matched ts us = items_by_counts (is_matched matched) no_trees ts us

-- Some item of the first list has an equal in the second.
abbrev pub some_shared : Trees → Trees → Bool
some_shared no_trees us = false
some_shared (tree t ts) us = nat_lt 0 (equals t us) || some_shared ts us

-- An array's distinct items; any other tree is one item.
abbrev pub distinct : Tree → Tree
distinct t = array (distinct_items (items_or_one t))

-- The array of the first tree's items for which the second has an equal that no item before them
-- took, or of the others.
abbrev pub matched_array : Bool → Tree → Tree → Tree
matched_array matched t u = array (matched_items matched (items_or_one t) (items_or_one u))

-- What both have of equal items, in the order of the first.
abbrev pub intersection : Tree → Tree → Tree
intersection t u = matched_array true t u

-- What the first has without one item for each equal item of the second.
abbrev pub difference : Tree → Tree → Tree
difference t u = matched_array false t u

-- Both have an item that is equal.
abbrev pub overlaps : Tree → Tree → Bool
overlaps t u = some_shared (items_or_one t) (items_or_one u)
