-- What the parts of a document are written as: the shapes of the trees that they mean.
use Rattle.std.specs.Prelude.{◌≡◌, ◌+◌, ℕ, ⊤, length}
use Rattle.std.proofs.Common.{sym, ap, ◌∙◌}
use Rattle.jsonb_codec.specs.declared.parts.Children.{Children}
use Rattle.jsonb_codec.specs.declared.parts.Members.{Members}
use Rattle.jsonb_codec.specs.declared.parts.Object.{Object}
use Rattle.jsonb_codec.specs.declared.parts.Part.{Part}
use Rattle.jsonb_codec.specs.Contents.{PartMeans, AreChildren, AreMembers}
use Rattle.jsonb_codec.specs.Parts.{IsObject}
use Rattle.jsonb_codec.specs.Shape.{Shape, Shapes, key_payloads}
use Rattle.jsonb_codec.specs.Source.{SourceMeaning, Laws}
use Rattle.jsonb_codec.specs.Canon.{shape_of, items_shapes, pairs_shapes, bare}

-- Something is meant, and everything that is meant has these shapes.
abbrev pub Shaped : {A B : Type 0} → (A → Type 0) → (A → B) → B → Type 0
Shaped {A} IsMeant shapes ss =
    ((a : A) × IsMeant a) × ((a : A) → IsMeant a → ss ≡ shapes a)

-- There is only one list of shapes.
pub one_shaped : {A : Type 0} (IsMeant : A → Type 0) (shapes : A → Shapes) (ss us : Shapes)
    → Shaped IsMeant shapes ss → Shaped IsMeant shapes us → ss ≡ us
one_shaped IsMeant shapes ss us h k = h.1 h.0.0 h.0.1 ∙ sym (k.1 h.0.0 h.0.1)

-- The shape of the tree that a part means.
abbrev pub PartIs : Part → Shape → Type 0
PartIs part = Shaped (λ t. PartMeans part t) shape_of

-- The shapes of the trees that children mean.
abbrev pub PartItemsAre : Children → Shapes → Type 0
PartItemsAre children = Shaped (λ ts. AreChildren ts children) items_shapes

abbrev pub PartObjectIs : Object → Shapes → Type 0
PartObjectIs object = Shaped (λ ps. IsObject object.count object.body.now ps) pairs_shapes

-- The shapes of the pairs that members mean.
abbrev pub PartMembersAre : Members → Shapes → Type 0
PartMembersAre members = Shaped (λ ps. AreMembers ps members) pairs_shapes

-- The number of bytes in the entry words and payloads, which is less than that of the enclosing
-- payload.
abbrev pub items_size : Children → ℕ
items_size children = length children.entries.now + length children.payloads.now

-- The meaning of parts as a source of the writer; there are no invariants to keep.
abbrev pub part_meaning : SourceMeaning Part Children Object Members
part_meaning = record {
  child = PartIs;
  child_size = λ part. length part.payload.now;
  child_held = λ part. ⊤;
  items = PartItemsAre;
  object = PartObjectIs;
  members = PartMembersAre;
  items_size = items_size;
  object_size = λ object. length object.body.now;
  members_size = λ members. items_size members.values;
  items_held = λ children. ⊤;
  object_held = λ object. ⊤;
  members_held = λ members. ⊤;
}

pub part_laws : Laws part_meaning
part_laws = record {
  one_items = λ x. one_shaped (λ ts. AreChildren ts x) items_shapes;
  one_object = λ x. one_shaped (λ ps. IsObject x.count x.body.now ps) pairs_shapes;
  one_members = λ x. one_shaped (λ ps. AreMembers ps x) pairs_shapes;
  bare_items = λ x ss h. ap key_payloads (h.1 h.0.0 h.0.1) ∙ bare h.0.0;
}
