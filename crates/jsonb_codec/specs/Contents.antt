-- What the parts of a document mean.
use Rattle.std.specs.Prelude.{◌≡◌, ◌<◌, ◌+◌, ℕ, List, length}
use Rattle.jsonb_value.specs.Tree.{Tree, array, object, Trees, Pairs, pair}
use Rattle.jsonb_codec.specs.declared.parts.Part.{Part}
use Rattle.jsonb_codec.specs.declared.parts.Children as declared
use Rattle.jsonb_codec.specs.declared.parts.Members.{Members}
use Rattle.jsonb_codec.specs.declared.parts.Contents.{Contents}
use Rattle.jsonb_codec.specs.declared.parts.Contents.TheVariants as contents
use Rattle.jsonb_codec.specs.Doc.{Children}
use Rattle.jsonb_codec.specs.Parts.{IsPayloadOf, IsObject, ArePairsOf}

-- The part means the tree.
abbrev pub PartMeans : Part → Tree → Type 0
PartMeans part t = IsPayloadOf part.type_code part.payload.now t

-- The children are these trees.
abbrev pub AreChildren : Trees → declared.Children → Type 0
AreChildren ts children = Children ts children.entries.now children.payloads.now

-- The members are these pairs.
abbrev pub AreMembers : Pairs → Members → Type 0
AreMembers ps members =
    ArePairsOf ps members.keys.entries.now members.keys.payloads.now
    members.values.entries.now members.values.payloads.now

-- The contents are those of the tree.
abbrev pub AreContents : Contents → Tree → Type 0
AreContents (contents.Array items) t = (ts : Trees) × ((t ≡ array ts) × AreChildren ts items)
AreContents (contents.Object it) t =
    (ps : Pairs) × ((t ≡ object ps) × IsObject it.count it.body.now ps)

-- Their entry words and payloads take fewer than this many bytes.
abbrev pub AreInside : ℕ → Contents → Type 0
AreInside n (contents.Array items) = length items.entries.now + length items.payloads.now < n
AreInside n (contents.Object it) = length it.body.now < n

-- The first of these pairs has this key, and a value with this type and payload; the others are
-- these members.
pub record FirstMember (ps : Pairs) (key : List ℕ) (type : ℕ) (payload : List ℕ)
    (later : Members) : Type 0 where
  pub value : Tree
  pub others : Pairs
  pub are : ps ≡ pair key value others
  pub is : IsPayloadOf type payload value
  pub left : AreMembers others later
