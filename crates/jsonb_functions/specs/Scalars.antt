-- The scalars among the items of an array, as a search has them.
use Rattle.std.specs.Prelude.{◌≡◌, ◌||◌, List}
use Rattle.std.specs.List.{list_any}
use Rattle.std.specs.List.Sorted.{IsSorted}
use Rattle.std.specs.Ordering.{on}
use Rattle.jsonb_value.specs.Tree.{Tree, Trees}
use Rattle.jsonb_value.specs.TreeOrder.{tree_cmp}
use Rattle.jsonb_codec.specs.declared.constants.TheConstants.{CONTAINER_TAG}
use Rattle.jsonb_codec.specs.Doc.{type_of}
use Rattle.jsonb.specs.declared.document.Document.{Document}
use Rattle.jsonb.specs.declared.node.Node.{Node}
use Rattle.jsonb.specs.declared.node.Node.TheVariants.{Container}
use Rattle.jsonb.specs.Node.{node_tree}
use Rattle.jsonb_functions.specs.ArraySets.{are_equal}
use Rattle.jsonb_functions.specs.Contains.{contained, some_tree}
use Rattle.jsonb_functions.specs.declared.scalars.Scalars.{Scalars}

-- The tree is no array and no object.
abbrev pub IsScalar : Tree → Type 0
IsScalar t = type_of t ≡ CONTAINER_TAG → ⊥

-- The value is no array and no object.
abbrev pub IsScalarValue : Node → Type 0
IsScalarValue node = (d : Document) → node ≡ Container d → ⊥

-- A scalar is equal to one of the values exactly if some of the trees contains it.
abbrev pub HasScalars : Trees → List Node → Type 0
HasScalars ts nodes = (u : Tree) → IsScalar u
    → list_any (λ node. are_equal (node_tree node) u) nodes ≡ some_tree (λ t. contained u t) ts

-- The scalars of the trees are those among the values and those of the trees that are left.
abbrev pub AreCollected : Trees → List Node → Trees → Type 0
AreCollected ts nodes rest = (u : Tree) → IsScalar u
    → (list_any (λ node. are_equal (node_tree node) u) nodes || some_tree (λ t. contained u t) rest)
    ≡ some_tree (λ t. contained u t) ts

-- The list has the scalars of the trees, in order.
abbrev pub AreScalarsOf : Trees → Scalars → Type 0
AreScalarsOf ts scalars = IsSorted (on node_tree tree_cmp) scalars.sorted.items
    × HasScalars ts scalars.sorted.items
