-- What the parts of a document are written as without the members that are null.
use Rattle.std.specs.Prelude.{◌≡◌, length}
use Rattle.jsonb_value.specs.Tree.{Tree, Pairs, pair}
use Rattle.jsonb_codec.specs.declared.parts.Children.{Children}
use Rattle.jsonb_codec.specs.declared.parts.Member.{Member}
use Rattle.jsonb_codec.specs.declared.parts.Members.{Members}
use Rattle.jsonb_codec.specs.Contents.{PartMeans, AreChildren, AreMembers}
use Rattle.jsonb_codec.specs.PartSource as parts
use Rattle.jsonb_codec.proofs.Unique.{Children-unique, pairs_unique}
use Rattle.jsonb_functions.specs.declared.strip.Stripped.{Stripped}
use Rattle.jsonb_functions.specs.Overlay.{OverlayMeaning, OverlayLaws, Becomes, one_becomes}
use Rattle.jsonb_functions.specs.Overlay.{part_unique}
use Rattle.jsonb_functions.specs.Stripped.{stripped, items_stripped, members_stripped}

abbrev pub strip_meaning : OverlayMeaning Stripped Children Members
strip_meaning = record {
  value = λ x. Becomes (λ t. PartMeans x.part t) stripped;
  items = λ x. Becomes (λ ts. AreChildren ts x) items_stripped;
  members = λ x. Becomes (λ ps. AreMembers ps x) members_stripped;
  value_size = λ x. length x.part.payload.now;
  items_size = parts.items_size;
  members_size = λ x. parts.items_size x.values;
}

pub strip_laws : OverlayLaws strip_meaning
strip_laws = record {
  one_value = λ x. one_becomes (λ t. PartMeans x.part t) stripped (part_unique x.part);
  one_items = λ x. one_becomes (λ ts. AreChildren ts x) items_stripped
      (λ ts us h k. Children-unique _ _ h k);
  one_members = λ x. one_becomes (λ ps. AreMembers ps x) members_stripped
      (λ ps qs h k. pairs_unique ps qs _ _ _ _ h k);
}

-- The pairs begin with what this member is without members that are null, and the others are those
-- after it.
pub record FirstStripped (ps : Pairs) (m : Member) : Type 0 where
  pub first : Tree
  pub others : Pairs
  pub are : ps ≡ pair m.key.now (stripped first) (members_stripped others)
  pub is : PartMeans m.value first
  pub left : AreMembers others m.later
