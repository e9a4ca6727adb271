-- Visiting the parts of a document one by one to write them again.
use Rattle.std.specs.Prelude.{◌≡◌, ◌↔◌, ℕ, List, ◌++◌}
use Rattle.jsonb_value.specs.Tree.{Tree, Trees, tree}
use Rattle.jsonb_codec.specs.WordBytes.{word}
use Rattle.jsonb_codec.specs.Doc.{Children}
use Rattle.jsonb_codec.specs.Parts.{IsPayloadOf}
use Rattle.jsonb_codec.specs.Shape as shapes
use Rattle.jsonb_codec.specs.Shape.{AllFit, FitsInside}
use Rattle.jsonb_codec.specs.Canon.{shape_of, items_shapes, payload_of}

-- The first of these children has this type and payload, and the others have the remaining entry
-- words and payloads.
pub record FirstChild (ts : Trees) (type : ℕ) (payload entries payloads : List ℕ) : Type 0 where
  pub first : Tree
  pub others : Trees
  pub are : ts ≡ tree first others
  pub is : IsPayloadOf type payload first
  pub later : Children others entries payloads

-- A container is written as this header and these children; those of an object are its keys, as
-- texts, and then its values.
pub record ContainerParts (t : Tree) (header : ℕ) (entries payloads : List ℕ) : Type 0 where
  pub children : Trees
  pub are : Children children entries payloads
  pub fit : AllFit (items_shapes children) ↔ FitsInside (shape_of t)
  pub written : payload_of t ≡ word header
      ++ (shapes.entries (items_shapes children) ++ shapes.payloads (items_shapes children))
