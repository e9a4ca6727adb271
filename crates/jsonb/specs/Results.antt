-- The trees of built documents, given the trees of their parts.
use Rattle.std.specs.Prelude.{◌≡◌, ◌<◌, ◌^◌, List, [], ◌∷◌, ◌++◌, ℕ, Option, Some, length, map}
use Rattle.std.specs.Iterator.{Drains, YieldsThen}
use Rattle.std.specs.Borrow.{Bor}
use Rattle.std.specs.List.{AllByRecursion, IsDistinct}
use Rattle.std.specs.Map.{keys_of}
use Rattle.std.specs.Str.{bytes_eq}
use Rattle.jsonb_value.specs.Tree.{Trees, no_trees, tree, Pairs, no_pairs, pair}
use Rattle.jsonb_value.specs.Tree as trees
use Rattle.jsonb_value.specs.Norm.{norms, norm_pairs}
use Rattle.jsonb_value.specs.WellFormed.{IsTree}
use Rattle.jsonb_codec.specs.Doc.{Doc}
use Rattle.jsonb_codec.specs.Canon.{canon, Fits}
use Rattle.jsonb.specs.declared.document.Document.{Document}
use Rattle.jsonb.specs.declared.raw.RawJsonb.{RawJsonb}
use Rattle.jsonb.specs.Document.{document_bytes, tree_in}
use Rattle.jsonb.specs.Raw.{raw_bytes}
use Rattle.jsonb.specs.Storage.{document_code}
use Rattle.jsonb.specs.ItemView.{ItemView, raw}
use Rattle.jsonb.specs.Code.{ItemMeans}
use Rattle.jsonb.specs.Building.{IsArrayOf, in_order, FitObject, IsObjectOf}

-- The items mean these trees, in order.
abbrev pub AllMean : List ItemView → Trees → Type 0
AllMean [] ts = ts ≡ no_trees
AllMean (x ∷ xs) no_trees = ⊥
AllMean (x ∷ xs) (tree t ts) = ItemMeans x t × AllMean xs ts

-- The items at keys mean these pairs, in order.
abbrev pub AllMeanAt : List (List ℕ × ItemView) → Pairs → Type 0
AllMeanAt [] ps = ps ≡ no_pairs
AllMeanAt (x ∷ xs) no_pairs = ⊥
AllMeanAt (x ∷ xs) (pair k t ps) = (x.0 ≡ k) × (ItemMeans x.1 t × AllMeanAt xs ps)

-- The byte strings are documents of these trees.
abbrev pub AreDocuments : List (List ℕ) → Trees → Type 0
AreDocuments [] ts = ts ≡ no_trees
AreDocuments (b ∷ bs) no_trees = ⊥
AreDocuments (b ∷ bs) (tree t ts) = Doc b t × AreDocuments bs ts

-- The byte strings are the canonical documents of these trees.
abbrev pub AreCanonical : List (List ℕ) → Trees → Type 0
AreCanonical [] ts = ts ≡ no_trees
AreCanonical (b ∷ bs) no_trees = ⊥
AreCanonical (b ∷ bs) (tree t ts) = (IsTree t × (Fits t × (canon t ≡ b))) × AreCanonical bs ts

-- The bytes are a document of the array of the trees, except that signed zeros may have become
-- unsigned.
pub record IsArrayUpToZeros (ts : Trees) (bytes : List ℕ) : Type 0 where
  pub stored : Trees
  pub document : Doc bytes (trees.array stored)
  pub same : norms stored ≡ norms ts

-- The bytes are a document of the object of the pairs, except that signed zeros may have become
-- unsigned.
pub record IsObjectUpToZeros (ps : Pairs) (bytes : List ℕ) : Type 0 where
  pub stored : Pairs
  pub document : Doc bytes (trees.object stored)
  pub same : norm_pairs stored ≡ norm_pairs ps

-- The bytes are the array of these inputs; if the inputs are documents, it is a document of the
-- array of their trees, and if they are canonical, it is canonical.
pub record IsArrayOfInputs (inputs : List (List ℕ)) (bytes : List ℕ) : Type 0 where
  pub array : IsArrayOf (map raw inputs) bytes
  pub document : (ts : Trees) → AreDocuments inputs ts → Doc bytes (trees.array ts)
  pub canonical : (ts : Trees) → AreCanonical inputs ts → Fits (trees.array ts)
      × (bytes ≡ canon (trees.array ts))

-- The keys are those of these pairs, and the byte strings are documents of their trees.
abbrev pub ArePairDocuments : List (List ℕ × List ℕ) → Pairs → Type 0
ArePairDocuments [] ps = ps ≡ no_pairs
ArePairDocuments (x ∷ xs) no_pairs = ⊥
ArePairDocuments (x ∷ xs) (pair k t ps) = (x.0 ≡ k) × (Doc x.1 t × ArePairDocuments xs ps)

-- The keys are those of these pairs, and the byte strings are the canonical documents of their
-- trees.
abbrev pub ArePairsCanonical : List (List ℕ × List ℕ) → Pairs → Type 0
ArePairsCanonical [] ps = ps ≡ no_pairs
ArePairsCanonical (x ∷ xs) no_pairs = ⊥
ArePairsCanonical (x ∷ xs) (pair k t ps) =
    (x.0 ≡ k) × ((IsTree t × (Fits t × (canon t ≡ x.1))) × ArePairsCanonical xs ps)

-- Byte strings at keys, as items.
abbrev pub raw_pairs : List (List ℕ × List ℕ) → List (List ℕ × ItemView)
raw_pairs xs = map (λ x. (x.0, raw x.1)) xs

-- A key and an input, as byte strings.
abbrev pub input_pair : Bor (List ℕ) × RawJsonb → List ℕ × List ℕ
input_pair x = (x.0.now, raw_bytes x.1)

-- The bytes are the object of these inputs, whose keys are distinct; if the inputs are documents,
-- it is a document of the object of their trees, and if they are canonical, it is canonical.
pub record IsObjectOfInputs (inputs : List (List ℕ × List ℕ)) (bytes : List ℕ) : Type 0 where
  pub distinct : IsDistinct bytes_eq (keys_of inputs)
  pub object : IsObjectOf (raw_pairs (in_order inputs)) bytes
  pub document : (ps : Pairs) → ArePairDocuments (in_order inputs) ps → Doc bytes (trees.object ps)
  pub canonical : (ps : Pairs) → ArePairsCanonical (in_order inputs) ps → Fits (trees.object ps)
      × (bytes ≡ canon (trees.object ps))

-- The keys of these inputs are distinct, and no object can be built from them.
pub record MakeNoObject (inputs : List (List ℕ × List ℕ)) : Type 0 where
  pub distinct : IsDistinct bytes_eq (keys_of inputs)
  pub none : FitObject (raw_pairs (in_order inputs)) → ⊥

-- The keys of all these pairs and of one more are distinct.
abbrev pub AreDistinctWith : List (List ℕ × List ℕ) → List ℕ × List ℕ → Type 0
AreDistinctWith pairs x = IsDistinct bytes_eq (keys_of (pairs ++ x ∷ []))

-- The trees of documents, in order.
abbrev pub trees_in : List (List ℕ) → Trees
trees_in [] = no_trees
trees_in (b ∷ bs) = tree (tree_in b) (trees_in bs)

-- The keys and the trees of documents at keys, in order.
abbrev pub trees_at_keys : List (List ℕ × List ℕ) → Pairs
trees_at_keys [] = no_pairs
trees_at_keys (x ∷ xs) = pair x.0 (tree_in x.1) (trees_at_keys xs)

-- The payload with which the document is stored in a container does not exceed its limit.
abbrev pub IsShortInput : List ℕ → Type 0
IsShortInput b = length (document_code b).payload < 2 ^ 28

-- No payload and not the count of these documents exceeds its limit.
abbrev pub AreWithinLimits : List (List ℕ) → Type 0
AreWithinLimits bs = AllByRecursion IsShortInput bs × (length bs < 2 ^ 29)

-- No key, no payload and not the count of these documents at keys exceeds its limit.
abbrev pub PairsAreWithinLimits : List (List ℕ × List ℕ) → Type 0
PairsAreWithinLimits xs =
    AllByRecursion (λ x. (length x.0 < 2 ^ 28) × IsShortInput x.1) xs × (length xs < 2 ^ 29)

-- The bytes are the array of these documents, and a document of the array of their trees; if the
-- documents are canonical, it is canonical.
pub record IsArrayOfDocuments (documents : List (List ℕ)) (bytes : List ℕ) : Type 0 where
  pub within : AreWithinLimits documents
  pub means : Doc bytes (trees.array (trees_in documents))
  pub inputs : IsArrayOfInputs documents bytes

-- A key and a document, as byte strings.
abbrev pub document_pair : Bor (List ℕ) × Document → List ℕ × List ℕ
document_pair x = (x.0.now, document_bytes x.1)

-- The bytes are the object of these documents, whose keys are distinct, and a document of the
-- object of their trees; if the documents are canonical, it is canonical.
pub record IsObjectOfDocuments (documents : List (List ℕ × List ℕ)) (bytes : List ℕ)
    : Type 0 where
  pub within : PairsAreWithinLimits (in_order documents)
  pub means : Doc bytes (trees.object (trees_at_keys (in_order documents)))
  pub inputs : IsObjectOfInputs documents bytes

-- The keys of these documents are distinct, and a key, a payload or the count exceeds its limit.
pub record PairsExceedLimits (documents : List (List ℕ × List ℕ)) : Type 0 where
  pub distinct : IsDistinct bytes_eq (keys_of documents)
  pub exceed : PairsAreWithinLimits (in_order documents) → ⊥

-- The iterator made from the source yielded a list up to its end, and the list has this property.
abbrev pub TakesAll : {C S A : Type 0} → (C → S → Type 0) → (S → Option A → S → Type 0) → C
    → (List A → Type 0) → Type 0
TakesAll {C} {S} {A} makes steps source P =
    (it : S) × ((xs : List A) × (makes source it × (Drains steps it xs × P xs)))

-- The iterator made from the source yielded a list and one more element, and both have this
-- property.
abbrev pub TakesUpTo : {C S A : Type 0} → (C → S → Type 0) → (S → Option A → S → Type 0) → C
    → (List A → A → Type 0) → Type 0
TakesUpTo {C} {S} {A} makes steps source P = (it : S)
    × ((xs : List A)
    × ((x : A)
    × ((rest : S) × (makes source it × (YieldsThen steps it xs (Some x) rest × P xs x)))))
