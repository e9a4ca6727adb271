-- How much there is in a tree to be compared.
use Rattle.std.specs.Prelude.{ℕ, suc, ◌+◌, length}
use Rattle.jsonb_value.specs.Order.{extension_data}
use Rattle.jsonb_value.specs.Tree.{Tree, null, boolean, number, text, extension, array, object}
use Rattle.jsonb_value.specs.Tree.{Trees, no_trees, tree, Pairs, no_pairs, pair}

abbrev mutual
  -- The number of values and keys in a tree, and of the bytes of its texts, keys and data.
  pub weight : Tree → ℕ
  weight null = 1
  weight (boolean b) = 1
  weight (number x) = 1
  weight (text s) = suc (length s)
  weight (extension e) = suc (length (extension_data e))
  weight (array ts) = suc (weights ts)
  weight (object ps) = suc (pair_weights ps)

  -- The same number for these trees.
  pub weights : Trees → ℕ
  weights no_trees = 0
  weights (tree t ts) = weight t + weights ts

  -- The same number for these pairs.
  pub pair_weights : Pairs → ℕ
  pair_weights no_pairs = 0
  pair_weights (pair k t ps) = suc (length k + (weight t + pair_weights ps))
