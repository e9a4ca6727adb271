-- The content of an array or object.
use Rattle.std.specs.Prelude.{◌≡◌, ℕ, List, map, Ok}
use Rattle.jsonb_value.specs.Tree.{Tree, array, object}
use Rattle.jsonb.specs.declared.document.Contents.{Contents}
use Rattle.jsonb.specs.declared.document.Contents.TheVariants as contents
use Rattle.jsonb.specs.EntryTrees.{rest_trees, rest_pairs}
use Rattle.jsonb.specs.Entry.{Code}
use Rattle.jsonb.specs.Node.{array_of, object_of}
use Rattle.jsonb.specs.StoredEntries.{AreEntriesOf, IsArrayOfEntries, IsObjectOfEntries}

-- The tree of the content.
abbrev pub contents_tree : Contents → Tree
contents_tree (contents.Array items) = array_of (rest_trees items)
contents_tree (contents.Object members) = object_of (rest_pairs members)

-- The content is read from the entries in the document b of the tree.
abbrev pub AreStoredIn : List ℕ → Tree → Contents → Type 0
AreStoredIn b (array ts) (contents.Array items) =
    (entries : List Code) × (IsArrayOfEntries b ts entries × (items ≡ map Ok entries))
AreStoredIn b (object ps) (contents.Object members) =
    (stored : List (List ℕ × Code)) × (IsObjectOfEntries b ps stored × AreEntriesOf stored members)
AreStoredIn b t content = ⊥
