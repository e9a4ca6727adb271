-- The tree that a `JsonAst` means, and ascending keys throughout a tree.
use Rattle.std.specs.Prelude.{ℕ, List, [], ◌∷◌, map, ⊤}
use Rattle.std.specs.declared.alloc.Global.{Global}
use Rattle.std.specs.declared.borrow.CowStr.{CowStr}
use Rattle.jsonb_value.specs.Tree.{Tree, null, boolean, number, text, extension, array, object}
use Rattle.jsonb_value.specs.Tree.{Trees, no_trees, tree, Pairs, no_pairs, pair, Ascend}
use Rattle.jsonb_value.specs.Value.{cow_bytes, trees_of}
use Rattle.jsonb_value.specs.declared.ast.JsonAst.{JsonAst, fold-JsonAst}
use Rattle.jsonb_value.specs.declared.ast.JsonAst.TheOpen.{JsonAst-F}

-- The pairs as pairs of a tree, without the positions of their keys.
abbrev pub ast_pairs_of : List (CowStr Global × Tree × ℕ) → Pairs
ast_pairs_of [] = no_pairs
ast_pairs_of (p ∷ ps) = pair (cow_bytes p.0) p.1 (ast_pairs_of ps)

-- The tree of one level, whose inner values are trees already.
abbrev pub ast_step : JsonAst-F Tree → Tree
ast_step JsonAst-F.Null = null
ast_step (JsonAst-F.Bool b) = boolean b
ast_step (JsonAst-F.String s) = text (cow_bytes s)
ast_step (JsonAst-F.Number x) = number x
ast_step (JsonAst-F.Array v) = array (trees_of v.items)
ast_step (JsonAst-F.Object v) = object (ast_pairs_of v.items)

-- The tree of a `JsonAst`.
abbrev pub ast_tree : JsonAst → Tree
ast_tree = fold-JsonAst Tree ast_step

-- The trees of a list of values.
abbrev pub asts_view : List JsonAst → Trees
asts_view vs = trees_of (map ast_tree vs)

-- The pairs of an object as pairs of a tree.
abbrev pub ast_pairs_view : List (CowStr Global × JsonAst × ℕ) → Pairs
ast_pairs_view ms = ast_pairs_of (map (λ m. (m.0, ast_tree m.1, m.2)) ms)

abbrev mutual
  -- In every object of the tree the keys ascend strictly by their bytes.
  pub AscendEverywhere : Tree → Type 0
  AscendEverywhere null = ⊤
  AscendEverywhere (boolean b) = ⊤
  AscendEverywhere (number x) = ⊤
  AscendEverywhere (text s) = ⊤
  AscendEverywhere (extension e) = ⊤
  AscendEverywhere (array ts) = AllAscend ts
  AscendEverywhere (object ps) = Ascend ps × PairsAscend ps

  -- In every object of these trees the keys ascend strictly by their bytes.
  pub AllAscend : Trees → Type 0
  AllAscend no_trees = ⊤
  AllAscend (tree t ts) = AscendEverywhere t × AllAscend ts

  -- In every object in the values of these pairs the keys ascend strictly by their bytes.
  pub PairsAscend : Pairs → Type 0
  PairsAscend no_pairs = ⊤
  PairsAscend (pair k t ps) = AscendEverywhere t × PairsAscend ps
