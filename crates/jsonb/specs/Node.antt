-- The meaning of a value in a document, and the content of arrays and objects.
use Rattle.std.specs.Prelude.{◌≡◌, ⊤, ℕ, List, [], ◌∷◌, length, nat_eq, Option, None, Some}
use Rattle.std.specs.Prelude.{slice_get}
use Rattle.std.specs.Borrow.{Bor}
use Rattle.std.specs.Cmp.Lexicographic.{pointwise}
use Rattle.jsonb_value.specs.Tree as trees
use Rattle.jsonb_value.specs.Tree.{Tree, Trees, no_trees, tree, Pairs, no_pairs, pair, array}
use Rattle.jsonb_value.specs.Tree.{object}
use Rattle.jsonb_value.specs.Value.{trees_of}
use Rattle.jsonb_codec.specs.declared.constants.TheConstants.{CONTAINER_TAG}
use Rattle.jsonb_codec.specs.Doc.{type_of}
use Rattle.jsonb.specs.declared.node.Node.{Node}
use Rattle.jsonb.specs.declared.node.Node.TheVariants as nodes
use Rattle.jsonb.specs.declared.document.Document.{Document}
use Rattle.jsonb.specs.Document.{document_bytes, document_tree}
use Rattle.jsonb.specs.ItemValues.{number_source, number_of_item, extension_source}
use Rattle.jsonb.specs.ItemValues.{extension_of_item}
use Rattle.jsonb.specs.ItemView.{ItemView}
use Rattle.jsonb.specs.ItemView as items
use Rattle.jsonb.specs.Lookup.{find, words_read}

-- The tree of a value.
abbrev pub node_tree : Node → Tree
node_tree nodes.Null = trees.null
node_tree (nodes.Boolean b) = trees.boolean b
node_tree (nodes.Number item) = trees.number (number_of_item item)
node_tree (nodes.String s) = trees.text s.now
node_tree (nodes.Extension item) = trees.extension (extension_of_item item)
node_tree (nodes.Container d) = document_tree d

-- The contents of the item that holds a value.
abbrev pub node_view : Node → ItemView
node_view nodes.Null = items.null
node_view (nodes.Boolean b) = items.boolean b
node_view (nodes.Number item) = items.number (number_source item) (number_of_item item)
node_view (nodes.String s) = items.text s.now
node_view (nodes.Extension item) = items.extension (extension_source item) (extension_of_item item)
node_view (nodes.Container d) = items.raw (document_bytes d)

-- The document of an array or object; none for a scalar.
abbrev pub container_of : Node → Option Document
container_of (nodes.Container d) = Some d
container_of node = None

-- The value of the first key that equals the name.
abbrev pub value_of_key : List ℕ → Tree → Option Tree
value_of_key name t = find (pointwise nat_eq name) (length name) t

-- how many words a look-up of the name reads
abbrev pub words_for_key : List ℕ → Tree → ℕ
words_for_key name t = words_read (pointwise nat_eq name) (length name) t

-- The items of an array, as a list.
abbrev pub tree_list : Trees → List Tree
tree_list no_trees = []
tree_list (tree t ts) = t ∷ tree_list ts

-- The items of an array; none for any other tree.
abbrev pub items_of : Tree → Option (List Tree)
items_of (array ts) = Some (tree_list ts)
items_of t = None

-- The item of an array at an index.
abbrev pub item_at_index : ℕ → Tree → Option Tree
item_at_index index (array ts) = slice_get (tree_list ts) index
item_at_index index t = None

-- The pairs of an object, as a list.
abbrev pub pair_list : Pairs → List (List ℕ × Tree)
pair_list no_pairs = []
pair_list (pair k t ps) = (k, t) ∷ pair_list ps

-- The pairs of an object; none for any other tree.
abbrev pub members_of : Tree → Option (List (List ℕ × Tree))
members_of (object ps) = Some (pair_list ps)
members_of t = None

-- A key with the tree of its value.
abbrev pub member_tree : Bor (List ℕ) × Node → List ℕ × Tree
member_tree member = (member.0.now, node_tree member.1)

-- The array of these trees.
abbrev pub array_of : List Tree → Tree
array_of ts = array (trees_of ts)

-- A list of keys and trees as the pairs of an object.
abbrev pub pairs_of : List (List ℕ × Tree) → Pairs
pairs_of [] = no_pairs
pairs_of (p ∷ ps) = pair p.0 p.1 (pairs_of ps)

-- The object of these pairs.
abbrev pub object_of : List (List ℕ × Tree) → Tree
object_of ps = object (pairs_of ps)

-- The tree is an array or object.
abbrev pub IsContainer : Tree → Type 0
IsContainer t = type_of t ≡ CONTAINER_TAG

-- A container in the node is an array or object, never a scalar.
abbrev pub HoldsNoScalar : Node → Type 0
HoldsNoScalar (nodes.Container d) = IsContainer (document_tree d)
HoldsNoScalar node = ⊤

-- the first key of an object, or that it has none; of all but objects nothing
abbrev pub first_key_of : Tree → Option (Option (List ℕ))
first_key_of (object no_pairs) = Some None
first_key_of (object (pair k t ps)) = Some (Some k)
first_key_of t = None
