-- The number of shapes of a list of values.
use Rattle.std.proofs.Common.{◌≡◌, ◌<◌, ℕ, ap, sym, ◌∙◌, arith}
use Rattle.jsonb_value.specs.Tree as trees
use Rattle.jsonb_value.specs.Tree.{Trees, Pairs, pair_count}
use Rattle.jsonb_codec.specs.Depth.{size}
use Rattle.jsonb_codec.specs.Shape.{Shapes, shape_count}
use Rattle.jsonb_codec.specs.Canon.{items_shapes, pairs_shapes}
use Rattle.jsonb_codec.proofs.TreeShapes.{count-items_shapes, count-pairs_shapes}

pub items_count : (ts : Trees) (n : ℕ) (ss : Shapes) → trees.count ts ≡ n → items_shapes ts ≡ ss
    → n ≡ shape_count ss
items_count ts n ss e h = sym e ∙ (sym (count-items_shapes ts) ∙ ap shape_count h)

pub pairs_count : (ps : Pairs) (n : ℕ) (ss : Shapes) → pair_count ps ≡ n → pairs_shapes ps ≡ ss
    → n ≡ shape_count ss
pairs_count ps n ss e h = sym e ∙ (sym (count-pairs_shapes ps) ∙ ap shape_count h)

pub size_positive : (t : trees.Tree) → 0 < size t
size_positive trees.null = omega arith
size_positive (trees.boolean b) = omega arith
size_positive (trees.number x) = omega arith
size_positive (trees.text s) = omega arith
size_positive (trees.extension e) = omega arith
size_positive (trees.array ts) = omega arith
size_positive (trees.object ps) = omega arith
