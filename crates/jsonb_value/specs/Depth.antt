-- How deep a tree nests.
use Rattle.std.specs.Prelude.{ℕ, suc, max}
use Rattle.jsonb_value.specs.Tree.{Tree, null, boolean, number, text, extension, array, object}
use Rattle.jsonb_value.specs.Tree.{Trees, no_trees, tree, Pairs, no_pairs, pair}

-- 0 of a scalar; of an array or object one more than the deepest child has, and 1 where it is empty
abbrev mutual
  pub depth : Tree → ℕ
  depth null = 0
  depth (boolean b) = 0
  depth (number x) = 0
  depth (text s) = 0
  depth (extension e) = 0
  depth (array ts) = suc (depths ts)
  depth (object ps) = suc (pair_depths ps)

  pub depths : Trees → ℕ
  depths no_trees = 0
  depths (tree t ts) = max (depth t) (depths ts)

  pub pair_depths : Pairs → ℕ
  pair_depths no_pairs = 0
  pair_depths (pair k t ps) = max (depth t) (pair_depths ps)
