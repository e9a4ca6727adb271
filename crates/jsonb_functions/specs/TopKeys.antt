-- The keys under which an inverted index finds documents by the keys at their top.
use Rattle.std.specs.Prelude.{ℕ, List, [], ◌∷◌, ◌++◌}
use Rattle.jsonb_value.specs.Tree.{Tree, text, array, object}
use Rattle.jsonb_value.specs.Tree.{Trees, no_trees, tree, Pairs, no_pairs, pair}
use Rattle.jsonb_functions.specs.IndexHash.{hash_64}

-- The hash of a key: that of two zero bytes and its bytes.
abbrev pub hash_of_key : List ℕ → ℕ
hash_of_key k = hash_64 (0 ∷ (0 ∷ k))

-- The hash of a text; none of any other tree.
abbrev pub text_hashes : Tree → List ℕ
text_hashes (text s) = hash_of_key s ∷ []
text_hashes t = []

-- The hashes of the texts among these trees.
abbrev pub item_hashes : Trees → List ℕ
item_hashes no_trees = []
item_hashes (tree t ts) = text_hashes t ++ item_hashes ts

-- The hashes of the keys of these pairs.
abbrev pub member_hashes : Pairs → List ℕ
member_hashes no_pairs = []
member_hashes (pair k t ps) = hash_of_key k ∷ member_hashes ps

-- The hashes of the keys of an object, of the texts among an array's items, or of the text itself.
abbrev pub top_hashes : Tree → List ℕ
top_hashes (array ts) = item_hashes ts
top_hashes (object ps) = member_hashes ps
top_hashes t = text_hashes t
