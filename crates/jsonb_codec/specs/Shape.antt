-- The bytes of scalars, arrays and objects: headers, entry words and payloads.
use Rattle.std.specs.Prelude.{◌<◌, ◌^◌, ◌+◌, ℕ, suc, List, [], ◌++◌, length, ⊤}
use Rattle.jsonb_codec.specs.declared.constants.TheConstants.{ARRAY_CONTAINER_TAG}
use Rattle.jsonb_codec.specs.declared.constants.TheConstants.{OBJECT_CONTAINER_TAG}
use Rattle.jsonb_codec.specs.declared.constants.TheConstants.{SCALAR_CONTAINER_TAG, STRING_TAG}
use Rattle.jsonb_codec.specs.declared.constants.TheConstants.{CONTAINER_TAG}
use Rattle.jsonb_codec.specs.WordBytes.{word}

mutual
  pub data Shape : Type 0 where
    leaf : ℕ → List ℕ → Shape
    array : Shapes → Shape
    object : Shapes → Shape

  -- Children with their keys; the keys of an array's items are empty.
  pub data Shapes : Type 0 where
    no_shapes : Shapes
    shape : List ℕ → Shape → Shapes → Shapes

-- The number of children.
abbrev pub shape_count : Shapes → ℕ
shape_count no_shapes = 0
shape_count (shape k s ss) = suc (shape_count ss)

-- The type of the entry.
abbrev pub shape_type : Shape → ℕ
shape_type (leaf type p) = type
shape_type (array ss) = CONTAINER_TAG
shape_type (object ss) = CONTAINER_TAG

-- The entry words of keys.
abbrev pub key_entries : Shapes → List ℕ
key_entries no_shapes = []
key_entries (shape k s ss) = word (STRING_TAG + length k) ++ key_entries ss

-- The payloads of keys.
abbrev pub key_payloads : Shapes → List ℕ
key_payloads no_shapes = []
key_payloads (shape k s ss) = k ++ key_payloads ss

abbrev mutual
  -- The payload of a shape.
  pub payload : Shape → List ℕ
  payload (leaf type p) = p
  payload (array ss) = word (ARRAY_CONTAINER_TAG + shape_count ss) ++ (entries ss ++ payloads ss)
  payload (object ss) = word (OBJECT_CONTAINER_TAG + shape_count ss)
      ++ (key_entries ss ++ (entries ss ++ (key_payloads ss ++ payloads ss)))

  -- The entry words of children.
  pub entries : Shapes → List ℕ
  entries no_shapes = []
  entries (shape k s ss) = word (shape_type s + length (payload s)) ++ entries ss

  -- The payloads of children.
  pub payloads : Shapes → List ℕ
  payloads no_shapes = []
  payloads (shape k s ss) = payload s ++ payloads ss

-- The total length of the keys and the payloads of children.
abbrev pub body : Shapes → ℕ
body ss = length (key_payloads ss) + length (payloads ss)

-- The document of a shape: a container's payload, or a leaf after a scalar's header.
abbrev pub document : Shape → List ℕ
document (leaf type p) = word SCALAR_CONTAINER_TAG ++ (word (type + length p) ++ p)
document (array ss) = payload (array ss)
document (object ss) = payload (object ss)

abbrev mutual
  -- No count, no key and no payload inside the shape exceeds its limit.
  pub FitsInside : Shape → Type 0
  FitsInside (leaf type p) = ⊤
  FitsInside (array ss) = (shape_count ss < 2 ^ 29) × AllFit ss
  FitsInside (object ss) = (shape_count ss < 2 ^ 29) × AllFit ss

  -- No count, no key and no payload in these children exceeds its limit.
  pub AllFit : Shapes → Type 0
  AllFit no_shapes = ⊤
  AllFit (shape k s ss) =
      ((length k < 2 ^ 28) × (FitsInside s × (length (payload s) < 2 ^ 28))) × AllFit ss

-- The shape can be written as a child: it and its payload fit.
pub record FitsEntry (s : Shape) : Type 0 where
  pub inside : FitsInside s
  pub short : length (payload s) < 2 ^ 28

-- The shape can be written as a document.
abbrev pub ShapeFits : Shape → Type 0
ShapeFits (leaf type p) = length p < 2 ^ 28
ShapeFits (array ss) = FitsInside (array ss)
ShapeFits (object ss) = FitsInside (object ss)
