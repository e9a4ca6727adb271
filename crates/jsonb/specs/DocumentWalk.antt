-- The items and the results of the iterators on a document.
use Rattle.std.specs.Prelude.{◌≡◌, ◌≢◌, ◌⊎◌, ◌<◌, ◌^◌, ℕ, List, [], ◌∷◌, length, map, Option, None}
use Rattle.std.specs.Prelude.{IsSomeAnd, Result, Ok, Err, IsOkAnd}
use Rattle.std.specs.Map.{values_of}
use Rattle.jsonb_value.specs.declared.error.Error.{Error}
use Rattle.jsonb_value.specs.Tree.{Tree, array, object, Trees, no_trees, tree, Pairs, no_pairs}
use Rattle.jsonb_value.specs.Tree.{pair, count, pair_count}
use Rattle.jsonb_codec.specs.declared.constants.TheConstants.{CONTAINER_TAG}
use Rattle.jsonb_codec.specs.Doc.{Payload, type_of}
use Rattle.jsonb.specs.declared.iterator.ChildKind.{ChildKind}
use Rattle.jsonb.specs.declared.iterator.ChildKind.TheVariants.{ArrayItem, ObjectKey, ObjectValue}
use Rattle.jsonb.specs.ItemView.{ItemView}
use Rattle.jsonb.specs.ItemView as items
use Rattle.jsonb.specs.Entry.{Code}
use Rattle.jsonb.specs.Item.{item_of}
use Rattle.jsonb.specs.Code.{ItemMeans, HasCode}
use Rattle.jsonb.specs.Walk.{Walk}
use Rattle.jsonb.specs.StoredEntries.{IsArrayOfEntries, IsObjectOfEntries, entry_item, member_item}

-- The item is that of some entry with the tree's type and a payload that means the tree; so the
-- item means the tree and is stored with that entry.
pub record IsItemOf (t : Tree) (x : ItemView) : Type 0 where
  pub payload : List ℕ
  pub short : length payload < 2 ^ 28
  pub payload_means : Payload t payload
  pub item : item_of (type_of t) payload ≡ Ok x
  pub means : ItemMeans x t
  pub code : HasCode x (type_of t) payload

-- The item of the document b of the tree t: all bytes of an array or object, the item of a scalar's
-- entry.
abbrev pub IsItemIn : Tree → List ℕ → ItemView → Type 0
IsItemIn t b x =
    ((type_of t ≢ CONTAINER_TAG) × IsItemOf t x) ⊎ ((type_of t ≡ CONTAINER_TAG) × (x ≡ items.raw b))

-- The results are the items of these trees, in order and without an error.
abbrev pub ShowsTrees : Trees → List (Result ItemView Error) → Type 0
ShowsTrees no_trees xs = xs ≡ []
ShowsTrees (tree t ts) [] = ⊥
ShowsTrees (tree t ts) (Ok x ∷ xs) = IsItemOf t x × ShowsTrees ts xs
ShowsTrees (tree t ts) (Err e ∷ xs) = ⊥

-- The items of the keys of these pairs, which are strings.
abbrev pub key_views : Pairs → List (Result ItemView Error)
key_views no_pairs = []
key_views (pair k t ps) = Ok (items.text k) ∷ key_views ps

-- The results are the items of these pairs' values, in order and without an error.
abbrev pub ShowsValues : Pairs → List (Result ItemView Error) → Type 0
ShowsValues no_pairs xs = xs ≡ []
ShowsValues (pair k t ps) [] = ⊥
ShowsValues (pair k t ps) (Ok x ∷ xs) = IsItemOf t x × ShowsValues ps xs
ShowsValues (pair k t ps) (Err e ∷ xs) = ⊥

-- The results are these pairs, each key with the item of its value, in order and without an error.
abbrev pub ShowsPairs : Pairs → List (Result (List ℕ × ItemView) Error) → Type 0
ShowsPairs no_pairs xs = xs ≡ []
ShowsPairs (pair k t ps) [] = ⊥
ShowsPairs (pair k t ps) (Ok x ∷ xs) = (x.0 ≡ k) × (IsItemOf t x.1 × ShowsPairs ps xs)
ShowsPairs (pair k t ps) (Err e ∷ xs) = ⊥

-- The result is an iterator with this count whose items have this property.
abbrev pub WalksOver : {A : Type 0} → ℕ → (List (Result A Error) → Type 0)
    → Result (Option (Walk A)) Error → Type 0
WalksOver n Shows r = IsOkAnd r (λ o. IsSomeAnd o (λ walk. (walk.count ≡ n) × Shows walk.rest))

-- For an array the result is an iterator over its items; for any other tree there is none.
abbrev pub WalksArray : Tree → Result (Option (Walk ItemView)) Error → Type 0
WalksArray (array ts) r = WalksOver (count ts) (ShowsTrees ts) r
WalksArray t r = r ≡ Ok None

-- For an object the result is an iterator over its keys; for any other tree there is none.
abbrev pub WalksKeys : Tree → Result (Option (Walk ItemView)) Error → Type 0
WalksKeys (object ps) r = WalksOver (pair_count ps) (λ xs. xs ≡ key_views ps) r
WalksKeys t r = r ≡ Ok None

-- For an object the result is an iterator over its values; for any other tree there is none.
abbrev pub WalksValues : Tree → Result (Option (Walk ItemView)) Error → Type 0
WalksValues (object ps) r = WalksOver (pair_count ps) (ShowsValues ps) r
WalksValues t r = r ≡ Ok None

-- For an object the result is an iterator over its pairs; for any other tree there is none.
abbrev pub WalksPairs : Tree → Result (Option (Walk (List ℕ × ItemView))) Error → Type 0
WalksPairs (object ps) r = WalksOver (pair_count ps) (ShowsPairs ps) r
WalksPairs t r = r ≡ Ok None

-- The results are the items of the entries in the document b of an array.
pub record ShowsItems (b : List ℕ) (ts : Trees) (xs : List (Result ItemView Error)) : Type 0 where
  pub entries : List Code
  pub stored : IsArrayOfEntries b ts entries
  pub items : xs ≡ map entry_item entries

-- The results are the items of the values' entries in the document b of an object.
pub record ShowsValueItems (b : List ℕ) (ps : Pairs)
    (xs : List (Result ItemView Error)) : Type 0 where
  pub members : List (List ℕ × Code)
  pub stored : IsObjectOfEntries b ps members
  pub items : xs ≡ map entry_item (values_of members)

-- The results are the keys, with the items of the values' entries, in the document b of an object.
pub record ShowsMembers (b : List ℕ) (ps : Pairs)
    (xs : List (Result (List ℕ × ItemView) Error)) : Type 0 where
  pub members : List (List ℕ × Code)
  pub stored : IsObjectOfEntries b ps members
  pub items : xs ≡ map member_item members

-- For an array the result is an iterator over the items of its entries in b.
abbrev pub WalksItems : List ℕ → Tree → Result (Option (Walk ItemView)) Error → Type 0
WalksItems b (array ts) r = WalksOver (count ts) (ShowsItems b ts) r
WalksItems b t r = r ≡ Ok None

-- For an object the result is an iterator over the items of its values' entries in b.
abbrev pub WalksValueItems : List ℕ → Tree → Result (Option (Walk ItemView)) Error → Type 0
WalksValueItems b (object ps) r = WalksOver (pair_count ps) (ShowsValueItems b ps) r
WalksValueItems b t r = r ≡ Ok None

-- For an object the result is an iterator over its keys, with the items of its values' entries, in
-- b.
abbrev pub WalksMembers : List ℕ → Tree → Result (Option (Walk (List ℕ × ItemView))) Error → Type 0
WalksMembers b (object ps) r = WalksOver (pair_count ps) (ShowsMembers b ps) r
WalksMembers b t r = r ≡ Ok None

-- The result is an iterator over these children of the tree, or none if it has no such children.
abbrev pub WalksChildren : ChildKind → Tree → Result (Option (Walk ItemView)) Error → Type 0
WalksChildren ArrayItem t r = WalksArray t r
WalksChildren ObjectKey t r = WalksKeys t r
WalksChildren ObjectValue t r = WalksValues t r

-- The result is an iterator over the items of these children's entries in b, or none if the tree
-- has no such children. The item of a key is the key itself.
abbrev pub WalksEntries : ChildKind → List ℕ → Tree → Result (Option (Walk ItemView)) Error → Type 0
WalksEntries ArrayItem b t r = WalksItems b t r
WalksEntries ObjectKey b t r = WalksKeys t r
WalksEntries ObjectValue b t r = WalksValueItems b t r
