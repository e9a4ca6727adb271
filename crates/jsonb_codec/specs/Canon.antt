-- The document that is written for a tree, and which trees have one.
use Rattle.std.specs.Prelude.{◌≡◌, ◌+◌, ◌==◌, ℕ, List, [], ◌++◌, length, if◌then◌else◌}
use Rattle.std.proofs.Common.{refl}
use Rattle.jsonb_value.specs.Tree.{Tree, null, boolean, number, text, extension, array, object}
use Rattle.jsonb_value.specs.Tree.{Trees, no_trees, tree, Pairs, no_pairs, pair}
use Rattle.jsonb_value.specs.NumCode.{number_payload}
use Rattle.jsonb_value.specs.ExtCode.{extension_payload}
use Rattle.jsonb_codec.specs.declared.constants.TheConstants.{SCALAR_CONTAINER_TAG, CONTAINER_TAG}
use Rattle.jsonb_codec.specs.WordBytes.{word}
use Rattle.jsonb_codec.specs.Doc.{type_of}
use Rattle.jsonb_codec.specs.Shape as shapes
use Rattle.jsonb_codec.specs.Shape.{Shape, leaf, Shapes, no_shapes, shape, key_payloads}

abbrev mutual
  -- The shape in which a tree is written: its scalars with their types and payloads, its containers
  -- with their children.
  pub shape_of : Tree → Shape
  shape_of null = leaf (type_of null) []
  shape_of (boolean b) = leaf (type_of (boolean b)) []
  shape_of (number x) = leaf (type_of (number x)) (number_payload x)
  shape_of (text s) = leaf (type_of (text s)) s
  shape_of (extension e) = leaf (type_of (extension e)) (extension_payload e)
  shape_of (array ts) = shapes.array (items_shapes ts)
  shape_of (object ps) = shapes.object (pairs_shapes ps)

  -- The shapes of an array's items.
  pub items_shapes : Trees → Shapes
  items_shapes no_trees = no_shapes
  items_shapes (tree t ts) = shape [] (shape_of t) (items_shapes ts)

  -- The shapes of an object's values, with their keys.
  pub pairs_shapes : Pairs → Shapes
  pairs_shapes no_pairs = no_shapes
  pairs_shapes (pair k t ps) = shape k (shape_of t) (pairs_shapes ps)

-- The payload that is written for a tree.
abbrev pub payload_of : Tree → List ℕ
payload_of t = shapes.payload (shape_of t)

-- The canonical document of a tree.
abbrev pub canon : Tree → List ℕ
canon t = shapes.document (shape_of t)

-- The tree has a canonical document.
abbrev pub Fits : Tree → Type 0
Fits t = shapes.ShapeFits (shape_of t)

-- The document of an entry with this type and payload: a container's payload, or a scalar after its
-- header.
abbrev pub document_of : ℕ → List ℕ → List ℕ
document_of type p =
    if type == CONTAINER_TAG then p else word SCALAR_CONTAINER_TAG ++ (word (type + length p) ++ p)

-- An array's items have no keys.
pub bare : (ts : Trees) → key_payloads (items_shapes ts) ≡ []
bare no_trees = refl
bare (tree t ts) = bare ts
