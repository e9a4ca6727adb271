-- The entries of a document, and the trees that they mean.
use Rattle.std.specs.Prelude.{◌≡◌, ℕ, List, [], ◌∷◌, length, map, ⊤, Result, Ok, Err}
use Rattle.std.specs.Borrow.{Bor}
use Rattle.std.specs.List.{zip}
use Rattle.jsonb_value.specs.declared.error.Error.{Error}
use Rattle.jsonb_value.specs.Tree as trees
use Rattle.jsonb_value.specs.Tree.{Tree}
use Rattle.jsonb_codec.specs.declared.constants.TheConstants.{STRING_TAG}
use Rattle.jsonb_codec.specs.declared.parts.Part.{Part}
use Rattle.jsonb_codec.specs.Parts.{IsSomePayload}
use Rattle.jsonb.specs.Document.{tree_in}
use Rattle.jsonb.specs.Entry.{Code}
use Rattle.jsonb.specs.Item.{item_of}
use Rattle.jsonb.specs.ItemView.{ItemView, null, boolean, number, text, extension, raw, owned}

-- The tree of an item, where bytes mean the tree of the document that they are.
abbrev pub view_tree : ItemView → Tree
view_tree null = trees.null
view_tree (boolean b) = trees.boolean b
view_tree (number given x) = trees.number x
view_tree (text s) = trees.text s
view_tree (extension given e) = trees.extension e
view_tree (raw b) = tree_in b
view_tree (owned b) = tree_in b

-- The tree of an item that was read; null for an error.
abbrev pub item_tree : Result ItemView Error → Tree
item_tree (Ok x) = view_tree x
item_tree (Err e) = trees.null

-- The tree of an entry.
unfoldable pub entry_tree : Code → Tree
entry_tree entry = item_tree (item_of entry.type entry.payload)

-- The tree of an entry that was read; null for an error.
abbrev pub tree_read : Result Code Error → Tree
tree_read (Ok entry) = entry_tree entry
tree_read (Err e) = trees.null

-- The bytes of a key's entry that was read; none for an error.
abbrev pub key_read : Result Code Error → List ℕ
key_read (Ok entry) = entry.payload
key_read (Err e) = []

-- The entry of a part.
abbrev pub entry_of_part : Part → Code
entry_of_part part = record { type = part.type_code; payload = part.payload.now }

-- The tree of a part.
abbrev pub part_tree : Part → Tree
part_tree part = entry_tree (entry_of_part part)

-- A key with the tree of its value's part.
abbrev pub member_part_tree : Bor (List ℕ) × Part → List ℕ × Tree
member_part_tree member = (member.0.now, part_tree member.1)

-- All entries were read without an error, and each means a tree.
abbrev pub AreParts : List (Result Code Error) → Type 0
AreParts [] = ⊤
AreParts (Ok entry ∷ others) = IsSomePayload entry.type entry.payload × AreParts others
AreParts (Err e ∷ others) = ⊥

-- All entries were read without an error and are strings.
abbrev pub AreKeyEntries : List (Result Code Error) → Type 0
AreKeyEntries [] = ⊤
AreKeyEntries (Ok entry ∷ others) = (entry.type ≡ STRING_TAG) × AreKeyEntries others
AreKeyEntries (Err e ∷ others) = ⊥

-- All entries of keys and of values were read without an error, the keys are strings, each value
-- means a tree, and there are as many values as keys.
abbrev pub AreMemberEntries : List (Result Code Error) × List (Result Code Error) → Type 0
AreMemberEntries left =
    (AreParts left.0 × AreKeyEntries left.0) × (AreParts left.1 × (length left.0 ≡ length left.1))

-- The trees of the remaining entries of an array.
abbrev pub rest_trees : List (Result Code Error) → List Tree
rest_trees = map tree_read

-- The remaining pairs of an object, from the entries of its keys and values.
abbrev pub rest_pairs : List (Result Code Error) × List (Result Code Error) → List (List ℕ × Tree)
rest_pairs left = zip (map key_read left.0) (map tree_read left.1)
