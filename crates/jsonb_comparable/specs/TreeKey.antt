-- The keys of documents, and of all other bytes.
use Rattle.std.specs.Prelude.{ℕ, List, [], ◌∷◌, ◌++◌, cond}
use Rattle.jsonb_value.specs.Meaning.{Meaning, document, other_bytes}
use Rattle.jsonb_value.specs.Tree.{Tree, null, boolean, number, text, extension, array, object}
use Rattle.jsonb_value.specs.Tree.{Trees, no_trees, tree, Pairs, no_pairs, pair}
use Rattle.jsonb_comparable.specs.Escaped.{escaped}
use Rattle.jsonb_comparable.specs.NumberKey.{number_key}
use Rattle.jsonb_comparable.specs.ExtensionKey.{extension_key}

-- The key of a text.
abbrev pub text_key : List ℕ → List ℕ
text_key s = 160 ∷ escaped s

unfoldable mutual
  -- The key of a tree: a first byte that rises with the kind, and what the value holds.
  pub tree_key : Tree → List ℕ
  tree_key (extension e) = extension_key e
  tree_key (boolean b) = (cond b 33 32) ∷ []
  tree_key (number x) = number_key x
  tree_key (text s) = text_key s
  tree_key (object ps) = 176 ∷ pairs_key ps
  tree_key (array ts) = 192 ∷ trees_key ts
  tree_key null = 208 ∷ []

  -- The keys of the items, and then an end byte, 0, which is below each first byte.
  pub trees_key : Trees → List ℕ
  trees_key no_trees = 0 ∷ []
  trees_key (tree t ts) = tree_key t ++ trees_key ts

  -- Each key's escaped bytes and the key of its value, and then an end byte, 0, which is below each
  -- first byte of escaped bytes.
  pub pairs_key : Pairs → List ℕ
  pairs_key no_pairs = 0 ∷ []
  pairs_key (pair k t ps) = escaped k ++ (tree_key t ++ pairs_key ps)

-- The key of an object's member: the escaped bytes of its key, and the key of its value.
abbrev pub member_key : List ℕ × Tree → List ℕ
member_key member = escaped member.0 ++ tree_key member.1

-- Bytes that are not a document are above each document, and ordered as bytes.
unfoldable pub meaning_key : Meaning → List ℕ
meaning_key (document t) = tree_key t
meaning_key (other_bytes b) = 255 ∷ escaped b
