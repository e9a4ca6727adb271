-- Trees after writing and reading: a signed and an unsigned zero have the same payload.
use Rattle.std.specs.Prelude.{zero, suc, pos, negsuc}
use Rattle.jsonb_value.specs.declared.number.Number.{Number}
use Rattle.jsonb_value.specs.declared.number.Number.TheVariants.{Int64, UInt64, Decimal64}
use Rattle.jsonb_value.specs.declared.number.Number.TheVariants.{Decimal128}
use Rattle.jsonb_value.specs.Tree.{Tree, null, boolean, number, text, extension, array, object}
use Rattle.jsonb_value.specs.Tree.{Trees, no_trees, tree, Pairs, no_pairs, pair}

-- A signed zero becomes the unsigned zero; all other numbers are unchanged.
abbrev pub norm_number : Number → Number
norm_number (Int64 (pos zero)) = UInt64 0
norm_number (Int64 (pos (suc n))) = Int64 (pos (suc n))
norm_number (Int64 (negsuc n)) = Int64 (negsuc n)
norm_number (UInt64 n) = UInt64 n
norm_number (Decimal64 d) = Decimal64 d
norm_number (Decimal128 d) = Decimal128 d

abbrev mutual
  -- The tree with every signed zero in it made unsigned.
  pub norm : Tree → Tree
  norm null = null
  norm (boolean b) = boolean b
  norm (number x) = number (norm_number x)
  norm (text s) = text s
  norm (extension e) = extension e
  norm (array ts) = array (norms ts)
  norm (object ps) = object (norm_pairs ps)

  -- The trees with every signed zero in them made unsigned.
  pub norms : Trees → Trees
  norms no_trees = no_trees
  norms (tree t ts) = tree (norm t) (norms ts)

  -- The pairs with every signed zero in their values made unsigned.
  pub norm_pairs : Pairs → Pairs
  norm_pairs no_pairs = no_pairs
  norm_pairs (pair k t ps) = pair k (norm t) (norm_pairs ps)
