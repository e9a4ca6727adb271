-- Trees without extension values.
use Rattle.std.specs.Prelude.{⊤}
use Rattle.jsonb_value.specs.Tree.{Tree, null, boolean, number, text, extension, array, object}
use Rattle.jsonb_value.specs.Tree.{Trees, no_trees, tree, Pairs, no_pairs, pair}

-- The tree has no extension value, which would be printed as a string and parsed back as one.
abbrev mutual
  pub IsPlain : Tree → Type 0
  IsPlain null = ⊤
  IsPlain (boolean b) = ⊤
  IsPlain (number x) = ⊤
  IsPlain (text s) = ⊤
  IsPlain (extension e) = ⊥
  IsPlain (array ts) = ArePlain ts
  IsPlain (object ps) = PairsPlain ps

  -- None of the trees has an extension value.
  pub ArePlain : Trees → Type 0
  ArePlain no_trees = ⊤
  ArePlain (tree t ts) = IsPlain t × ArePlain ts

  -- No value of the pairs has an extension value.
  pub PairsPlain : Pairs → Type 0
  PairsPlain no_pairs = ⊤
  PairsPlain (pair k t ps) = IsPlain t × PairsPlain ps
