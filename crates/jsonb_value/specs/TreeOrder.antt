-- The order of trees.
use Rattle.std.specs.Prelude.{ℕ}
use Rattle.std.specs.declared.cmp.Ordering.{Ordering}
use Rattle.std.specs.declared.cmp.Ordering.TheVariants.{Less, Equal, Greater}
use Rattle.std.specs.Ordering.{nat_cmp, bool_cmp, ordering_then}
use Rattle.std.specs.Cmp.Lexicographic.{slice_cmp}
use Rattle.jsonb_value.specs.Order.{number_cmp, extension_cmp}
use Rattle.jsonb_value.specs.Tree.{Tree, null, boolean, number, text, extension, array, object}
use Rattle.jsonb_value.specs.Tree.{Trees, no_trees, tree, Pairs, no_pairs, pair}

-- The rank of a tree's kind; a kind of higher rank compares greater.
abbrev pub rank_of : Tree → ℕ
rank_of null = 7
rank_of (array ts) = 6
rank_of (object ps) = 5
rank_of (text s) = 4
rank_of (number x) = 3
rank_of (boolean b) = 2
rank_of (extension e) = 1

abbrev mutual
  -- Compares two trees by kind, and trees of one kind by content.
  pub tree_cmp : Tree → Tree → Ordering
  tree_cmp null null = Equal
  tree_cmp (array ts) (array us) = trees_cmp ts us
  tree_cmp (object ps) (object qs) = pairs_cmp ps qs
  tree_cmp (text s) (text t) = slice_cmp nat_cmp s t
  tree_cmp (number x) (number y) = number_cmp x y
  tree_cmp (boolean a) (boolean b) = bool_cmp a b
  tree_cmp (extension d) (extension e) = extension_cmp d e
  tree_cmp t u = nat_cmp (rank_of t) (rank_of u)

  -- Compares two lists lexicographically: the first items that differ decide, and a list is greater
  -- than its proper prefixes.
  pub trees_cmp : Trees → Trees → Ordering
  trees_cmp no_trees no_trees = Equal
  trees_cmp no_trees (tree u us) = Less
  trees_cmp (tree t ts) no_trees = Greater
  trees_cmp (tree t ts) (tree u us) = ordering_then (tree_cmp t u) (trees_cmp ts us)

  -- Compares two lists of pairs lexicographically; a pair compares by the bytes of its key, then by
  -- its value.
  pub pairs_cmp : Pairs → Pairs → Ordering
  pairs_cmp no_pairs no_pairs = Equal
  pairs_cmp no_pairs (pair l u qs) = Less
  pairs_cmp (pair k t ps) no_pairs = Greater
  pairs_cmp (pair k t ps) (pair l u qs) =
      ordering_then (slice_cmp nat_cmp k l) (ordering_then (tree_cmp t u) (pairs_cmp ps qs))
