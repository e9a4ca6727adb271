-- A tree without the members that are null.
use Rattle.jsonb_value.specs.Tree.{Tree, null, array, object}
use Rattle.jsonb_value.specs.Tree.{Trees, no_trees, tree, Pairs, no_pairs, pair}

abbrev mutual
  -- The tree without the members that are null, in each object in it.
  pub stripped : Tree → Tree
  stripped (array ts) = array (items_stripped ts)
  stripped (object ps) = object (members_stripped ps)
  stripped t = t

  -- The same of each item; items that are null stay.
  pub items_stripped : Trees → Trees
  items_stripped no_trees = no_trees
  items_stripped (tree t ts) = tree (stripped t) (items_stripped ts)

  -- The same of each pair whose value is not null; the others are left out.
  pub members_stripped : Pairs → Pairs
  members_stripped no_pairs = no_pairs
  members_stripped (pair k null ps) = members_stripped ps
  members_stripped (pair k t ps) = pair k (stripped t) (members_stripped ps)
