-- What items mean, and the entries with which they are stored.
use Rattle.std.specs.Prelude.{◌≡◌, ◌≢◌, ◌⊎◌, ◌+◌, ◌<◌, ◌^◌, ℕ, List, [], ◌++◌, length, true, false}
use Rattle.std.specs.Prelude.{Option, None, unwrap_or, zero, pos, ⊤}
use Rattle.jsonb_value.specs.declared.number.Number.{Number}
use Rattle.jsonb_value.specs.declared.number.Number.TheVariants.{Int64}
use Rattle.jsonb_value.specs.NumCode.{number_payload}
use Rattle.jsonb_value.specs.ExtCode.{extension_payload}
use Rattle.jsonb_value.specs.Tree.{Tree, Extension}
use Rattle.jsonb_value.specs.Tree as trees
use Rattle.jsonb_codec.specs.declared.constants.TheConstants.{SCALAR_CONTAINER_TAG, NULL_TAG}
use Rattle.jsonb_codec.specs.declared.constants.TheConstants.{STRING_TAG, NUMBER_TAG, FALSE_TAG}
use Rattle.jsonb_codec.specs.declared.constants.TheConstants.{TRUE_TAG, CONTAINER_TAG}
use Rattle.jsonb_codec.specs.declared.constants.TheConstants.{EXTENSION_TAG}
use Rattle.jsonb_codec.specs.WordBytes.{word}
use Rattle.jsonb_codec.specs.Doc.{Doc, type_of}
use Rattle.jsonb.specs.ItemView.{ItemView, null, boolean, number, text, extension, raw, owned}

-- The item means the tree; bytes mean the tree of the document that they are.
abbrev pub ItemMeans : ItemView → Tree → Type 0
ItemMeans null t = t ≡ trees.null
ItemMeans (boolean b) t = t ≡ trees.boolean b
ItemMeans (number given x) t = t ≡ trees.number x
ItemMeans (text s) t = t ≡ trees.text s
ItemMeans (extension given e) t = t ≡ trees.extension e
ItemMeans (raw b) t = Doc b t
ItemMeans (owned b) t = Doc b t

-- The document of a scalar, given the type and the payload of its entry.
abbrev pub scalar_bytes : ℕ → List ℕ → List ℕ
scalar_bytes type payload = word SCALAR_CONTAINER_TAG ++ (word (type + length payload) ++ payload)

-- The document b of the tree t is stored with this type and payload: a scalar with its own entry,
-- an array or object whole.
abbrev pub IsDocumentCode : Tree → List ℕ → ℕ → List ℕ → Type 0
IsDocumentCode t b type payload =
    ((type_of t ≢ CONTAINER_TAG) × ((type ≡ type_of t) × (b ≡ scalar_bytes type payload)))
    ⊎ ((type_of t ≡ CONTAINER_TAG) × ((type ≡ CONTAINER_TAG) × (payload ≡ b)))

-- The payload of a number: the given bytes, or the encoded number if there are none.
abbrev pub number_bytes : Option (List ℕ) → Number → List ℕ
number_bytes given x = unwrap_or given (number_payload x)

-- The payload of an extension value: the given bytes, or the encoded value if there are none.
abbrev pub extension_bytes : Option (List ℕ) → Extension → List ℕ
extension_bytes given e = unwrap_or given (extension_payload e)

-- The item is stored with this type and payload; bytes that are not a document have none.
abbrev pub HasCode : ItemView → ℕ → List ℕ → Type 0
HasCode null type payload = (type ≡ NULL_TAG) × (payload ≡ [])
HasCode (boolean false) type payload = (type ≡ FALSE_TAG) × (payload ≡ [])
HasCode (boolean true) type payload = (type ≡ TRUE_TAG) × (payload ≡ [])
HasCode (number given x) type payload = (type ≡ NUMBER_TAG) × (payload ≡ number_bytes given x)
HasCode (text s) type payload = (type ≡ STRING_TAG) × (payload ≡ s)
HasCode (extension given e) type payload =
    (type ≡ EXTENSION_TAG) × (payload ≡ extension_bytes given e)
HasCode (raw b) type payload = (t : Tree) × (Doc b t × IsDocumentCode t b type payload)
HasCode (owned b) type payload = (t : Tree) × (Doc b t × IsDocumentCode t b type payload)

-- The bytes of an item on its own: those that it holds, or the document of its scalar.
abbrev pub item_document : ItemView → List ℕ
item_document null = scalar_bytes NULL_TAG []
item_document (boolean false) = scalar_bytes FALSE_TAG []
item_document (boolean true) = scalar_bytes TRUE_TAG []
item_document (number given x) = scalar_bytes NUMBER_TAG (number_bytes given x)
item_document (text s) = scalar_bytes STRING_TAG s
item_document (extension given e) = scalar_bytes EXTENSION_TAG (extension_bytes given e)
item_document (raw b) = b
item_document (owned b) = b

-- A scalar's payload does not exceed its limit.
abbrev pub CanBeStored : ItemView → Type 0
CanBeStored null = ⊤
CanBeStored (boolean b) = ⊤
CanBeStored (number given x) = length (number_bytes given x) < 2 ^ 28
CanBeStored (text s) = length s < 2 ^ 28
CanBeStored (extension given e) = length (extension_bytes given e) < 2 ^ 28
CanBeStored (raw b) = ⊤
CanBeStored (owned b) = ⊤

-- The item is a signed zero that was made from a number: it is stored as the unsigned zero.
abbrev pub IsSignedZero : ItemView → Type 0
IsSignedZero (number None (Int64 (pos zero))) = ⊤
IsSignedZero x = ⊥

-- The document of the item can be made, and means the tree.
abbrev pub HasDocument : ItemView → Tree → Type 0
HasDocument x t = CanBeStored x × Doc (item_document x) t
