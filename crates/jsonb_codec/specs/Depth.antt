-- The depth and the size of a tree.
use Rattle.std.specs.Prelude.{ℕ, suc, ◌+◌, ◌≤◌, List}
pub use Rattle.jsonb_value.specs.Depth.{depth, depths, pair_depths}
use Rattle.jsonb_value.specs.Tree.{Tree, null, boolean, number, text, extension, array, object}
use Rattle.jsonb_value.specs.Tree.{Trees, no_trees, tree, Pairs, no_pairs, pair}
use Rattle.jsonb_codec.specs.Doc.{Doc}

-- The number of values and keys in a tree, including the tree itself.
abbrev mutual
  pub size : Tree → ℕ
  size null = 1
  size (boolean b) = 1
  size (number x) = 1
  size (text s) = 1
  size (extension e) = 1
  size (array ts) = suc (sizes ts)
  size (object ps) = suc (pair_sizes ps)

  -- The number of values and keys in these trees.
  pub sizes : Trees → ℕ
  sizes no_trees = 0
  sizes (tree t ts) = size t + sizes ts

  -- The number of values and keys in these pairs.
  pub pair_sizes : Pairs → ℕ
  pair_sizes no_pairs = 0
  pair_sizes (pair k t ps) = suc (size t + pair_sizes ps)

-- The bytes are a document whose tree has at most this depth.
abbrev pub IsDocumentWithin : ℕ → List ℕ → Type 0
IsDocumentWithin limit b = (t : Tree) × ((depth t ≤ limit) × Doc b t)
