-- The shapes that values in a list are written as.
use Rattle.std.proofs.Common.{◌≡◌, ℕ, suc, List, [], ◌∷◌, length, refl, sym, ap, subst, ◌∙◌}
use Rattle.std.specs.Borrow.{Bor}
use Rattle.jsonb_value.specs.Tree.{Tree}
use Rattle.jsonb_codec.specs.declared.parts.Children as declared
use Rattle.jsonb_codec.specs.declared.parts.Members.{Members}
use Rattle.jsonb_codec.specs.declared.parts.Part.{Part}
use Rattle.jsonb_codec.specs.Canon.{items_shapes, shape_of}
use Rattle.jsonb_codec.specs.Contents.{PartMeans}
use Rattle.jsonb_codec.specs.PartSource.{PartIs, PartItemsAre, PartMembersAre}
use Rattle.jsonb_codec.specs.Shape.{Shape, Shapes, no_shapes, shape, shape_count}
use Rattle.jsonb_codec.specs.Source.{AreSplit}
use Rattle.jsonb_codec.proofs.Decision.{known_part}
use Rattle.jsonb_codec.proofs.Unique.{same_tree}
use Rattle.jsonb.specs.declared.node.Node.{Node}
use Rattle.kohiblad.specs.declared.listed.Listed.TheVariants.{Value, Below}
use Rattle.kohiblad.specs.declared.listed.ListedItems.TheVariants.{Values, Children}
use Rattle.kohiblad.specs.ListedSource.{ListedIs, ListedItemsAre, listed_trees}

-- A part is written as the shape of its tree.
pub part_is : (part : Part) (t : Tree) → PartMeans part t → PartIs part (shape_of t)
part_is part t h = ((t, h), λ u k. ap shape_of (same_tree t u (h.0 ∙ sym k.0) _ h.1 k.1))

pub known_shape : (part : Part) → (s : Shape) × PartIs part s
known_shape part = let (t, h) = known_part _ _ part.fact in (shape_of t, part_is part t h)

-- There are as many shapes as values.
count_shapes : (nodes : List Node) → length nodes ≡ shape_count (items_shapes (listed_trees nodes))
count_shapes [] = refl
count_shapes (node ∷ nodes) = ap suc (count_shapes nodes)

pub listed_count : (x : Bor (List Node)) (ss : Shapes) → ListedItemsAre (Values x) ss
    → length x.now ≡ shape_count ss
listed_count x ss h = count_shapes x.now ∙ sym (ap shape_count h)

-- The shapes of values are that of the first one, and those of the others.
pub first_values : (x later : Bor (List Node)) (first : Node) → x.now ≡ first ∷ later.now
    → (ss : Shapes) → ListedItemsAre (Values x) ss
    → AreSplit (λ key. key ≡ []) ListedIs ListedItemsAre (Value first, Values later) ss
first_values x later first is ss h =
    subst (AreSplit (λ key. key ≡ []) ListedIs ListedItemsAre (Value first, Values later))
    (sym (h ∙ ap (λ nodes. items_shapes (listed_trees nodes)) is)) (refl, (refl, refl))

-- What is below a value is split as the parts are.
pub first_below : (part : Part) (later : declared.Children) (ss : Shapes)
    → AreSplit (λ key. key ≡ []) PartIs PartItemsAre (part, later) ss
    → AreSplit (λ key. key ≡ []) ListedIs ListedItemsAre (Below part, Children later) ss
first_below part later no_shapes h = h
first_below part later (shape k s ss) h = h

pub below_member : (IsKey : List ℕ → Type 0) (part : Part) (later : Members) (ss : Shapes)
    → AreSplit IsKey PartIs PartMembersAre (part, later) ss
    → AreSplit IsKey ListedIs PartMembersAre (Below part, later) ss
below_member IsKey part later no_shapes h = h
below_member IsKey part later (shape k s ss) h = h
