-- The payloads of a document.
use Rattle.std.specs.Prelude.{ℕ, List, [], ◌∷◌, ◌++◌}
use Rattle.std.proofs.Common.{inl, inr}
use Rattle.jsonb_value.specs.Tree.{Tree, array, object, Trees, no_trees, tree, Pairs, no_pairs}
use Rattle.jsonb_value.specs.Tree.{pair}
use Rattle.jsonb_codec.specs.Doc.{Keys, Values, Children, Doc}

-- The payloads of an array's items, in order.
abbrev pub item_payloads : (ts : Trees) (e p : List ℕ) → Children ts e p → List (List ℕ)
item_payloads no_trees e p h = []
item_payloads (tree t ts) e p h = h.payload ∷ item_payloads ts _ _ h.others

-- The payloads of an object's keys, in order.
abbrev pub keys_in : (ps : Pairs) (e p : List ℕ) → Keys ps e p → List (List ℕ)
keys_in no_pairs e p h = []
keys_in (pair k t ps) e p h = h.payload ∷ keys_in ps _ _ h.others

-- The payloads of an object's values, in the order of their keys.
abbrev pub values_in : (ps : Pairs) (e p : List ℕ) → Values ps e p → List (List ℕ)
values_in no_pairs e p h = []
values_in (pair k t ps) e p h = h.payload ∷ values_in ps _ _ h.others

-- The payloads of a document in stored order: an array's items, an object's keys and then its
-- values, or the one of a scalar.
abbrev pub payloads_in : (b : List ℕ) (t : Tree) → Doc b t → List (List ℕ)
payloads_in b t (inl h) = h.1.payload ∷ []
payloads_in b (array ts) (inr h) = item_payloads ts _ _ h.1.later.items
payloads_in b (object ps) (inr h) =
    keys_in ps _ _ h.1.1.later.keys ++ values_in ps _ _ h.1.1.later.values
payloads_in b t (inr h) = []
