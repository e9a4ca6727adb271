-- Which byte strings mean which tree: the definition of documents.
use Rattle.std.specs.Prelude.{◌≡◌, ◌≢◌, ◌⊎◌, ℕ, ◌+◌, ◌<◌, ◌^◌, List, [], ◌++◌, length, true, false}
use Rattle.std.specs.Str.{IsUtf8}
use Rattle.jsonb_value.specs.Tree.{Tree, null, boolean, number, text, extension, array, object}
use Rattle.jsonb_value.specs.Tree.{Trees, no_trees, tree, Pairs, no_pairs, pair, count, pair_count}
use Rattle.jsonb_value.specs.Tree.{Ascend}
use Rattle.jsonb_value.specs.NumCode.{NumCode}
use Rattle.jsonb_value.specs.ExtCode.{ExtCode}
use Rattle.jsonb_codec.specs.declared.constants.TheConstants.{ARRAY_CONTAINER_TAG}
use Rattle.jsonb_codec.specs.declared.constants.TheConstants.{OBJECT_CONTAINER_TAG}
use Rattle.jsonb_codec.specs.declared.constants.TheConstants.{SCALAR_CONTAINER_TAG, NULL_TAG}
use Rattle.jsonb_codec.specs.declared.constants.TheConstants.{STRING_TAG, NUMBER_TAG, FALSE_TAG}
use Rattle.jsonb_codec.specs.declared.constants.TheConstants.{TRUE_TAG, CONTAINER_TAG}
use Rattle.jsonb_codec.specs.declared.constants.TheConstants.{EXTENSION_TAG}
use Rattle.jsonb_codec.specs.WordBytes.{word}

-- The type of a tree's entry.
abbrev pub type_of : Tree → ℕ
type_of null = NULL_TAG
type_of (boolean false) = FALSE_TAG
type_of (boolean true) = TRUE_TAG
type_of (number x) = NUMBER_TAG
type_of (text s) = STRING_TAG
type_of (extension e) = EXTENSION_TAG
type_of (array ts) = CONTAINER_TAG
type_of (object ps) = CONTAINER_TAG

-- There are no entry words and no payloads.
pub record NoMore (entries payloads : List ℕ) : Type 0 where
  pub no_entries : entries ≡ []
  pub no_payloads : payloads ≡ []

-- There are an entry word and a payload of this type and meaning, followed by others.
pub record One (type : ℕ) (Means : List ℕ → Type 0) (Others : List ℕ → List ℕ → Type 0)
    (entries payloads : List ℕ) : Type 0 where
  pub payload : List ℕ
  pub other_entries : List ℕ
  pub other_payloads : List ℕ
  pub entries_are : entries ≡ word (type + length payload) ++ other_entries
  pub payloads_are : payloads ≡ payload ++ other_payloads
  pub short : length payload < 2 ^ 28
  pub means : Means payload
  pub others : Others other_entries other_payloads

-- The bytes are n entry words followed by their n payloads.
pub record Body (n : ℕ) (Items : List ℕ → List ℕ → Type 0) (bytes : List ℕ) : Type 0 where
  pub few : n < 2 ^ 29
  pub entries : List ℕ
  pub payloads : List ℕ
  pub parts : bytes ≡ entries ++ payloads
  pub items : Items entries payloads

-- The bytes are the entry words of n keys, those of n values, the keys, and the payloads of the
-- values.
pub record PairsBody (n : ℕ) (Keys Values : List ℕ → List ℕ → Type 0)
    (bytes : List ℕ) : Type 0 where
  pub few : n < 2 ^ 29
  pub key_entries : List ℕ
  pub value_entries : List ℕ
  pub key_payloads : List ℕ
  pub value_payloads : List ℕ
  pub parts : bytes ≡ key_entries ++ (value_entries ++ (key_payloads ++ value_payloads))
  pub keys : Keys key_entries key_payloads
  pub values : Values value_entries value_payloads

-- The bytes are this header word, followed by bytes with this property.
pub record FollowsHeader (header : ℕ) (Rest : List ℕ → Type 0) (bytes : List ℕ) : Type 0 where
  pub rest : List ℕ
  pub parts : bytes ≡ word header ++ rest
  pub later : Rest rest

-- The payload is the key, in UTF-8.
abbrev pub IsKey : List ℕ → List ℕ → Type 0
IsKey k p = (p ≡ k) × IsUtf8 k

-- The entry words and the payloads are those of the keys of these pairs.
abbrev pub Keys : Pairs → List ℕ → List ℕ → Type 0
Keys no_pairs = NoMore
Keys (pair k t ps) = One STRING_TAG (IsKey k) (Keys ps)

abbrev mutual
  -- The payload means the tree.
  pub Payload : Tree → List ℕ → Type 0
  Payload null = λ p. p ≡ []
  Payload (boolean b) = λ p. p ≡ []
  Payload (number x) = λ p. NumCode p x
  Payload (text s) = λ p. IsKey s p
  Payload (extension e) = λ p. ExtCode p e
  Payload (array ts) =
      FollowsHeader (ARRAY_CONTAINER_TAG + count ts) (Body (count ts) (Children ts))
  Payload (object ps) = λ p. Ascend ps
      × FollowsHeader (OBJECT_CONTAINER_TAG + pair_count ps)
      (PairsBody (pair_count ps) (Keys ps) (Values ps)) p

  -- The entry words and the payloads are those of an array's items.
  pub Children : Trees → List ℕ → List ℕ → Type 0
  Children no_trees = NoMore
  Children (tree t ts) = One (type_of t) (Payload t) (Children ts)

  -- The entry words and the payloads are those of an object's values.
  pub Values : Pairs → List ℕ → List ℕ → Type 0
  Values no_pairs = NoMore
  Values (pair k t ps) = One (type_of t) (Payload t) (Values ps)

-- The bytes are a scalar's header, one entry word, and its payload.
pub record Scalar (t : Tree) (bytes : List ℕ) : Type 0 where
  pub payload : List ℕ
  pub parts : bytes ≡ word SCALAR_CONTAINER_TAG ++ (word (type_of t + length payload) ++ payload)
  pub short : length payload < 2 ^ 28
  pub means : Payload t payload

-- The bytes are a document of the tree: a scalar after its header, or an array or object.
abbrev pub Doc : List ℕ → Tree → Type 0
Doc b t = ((type_of t ≢ CONTAINER_TAG) × Scalar t b) ⊎ ((type_of t ≡ CONTAINER_TAG) × Payload t b)

-- The bytes are a document of some tree.
abbrev pub IsDocument : List ℕ → Type 0
IsDocument b = (t : Tree) × Doc b t
