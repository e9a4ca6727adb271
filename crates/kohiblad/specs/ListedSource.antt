-- What values in a list are written as.
use Rattle.std.specs.Prelude.{◌≡◌, ◌+◌, ◌*◌, ◌^◌, ℕ, ⊤, List, [], length, map}
use Rattle.std.proofs.Common.{sym, ap, ◌∙◌}
use Rattle.jsonb_value.specs.Tree.{Trees}
use Rattle.jsonb_value.specs.Value.{trees_of}
use Rattle.jsonb_codec.specs.declared.parts.Members.{Members}
use Rattle.jsonb_codec.specs.declared.parts.Object.{Object}
use Rattle.jsonb_codec.specs.Canon.{bare, items_shapes, shape_of}
use Rattle.jsonb_codec.specs.PartSource.{PartIs, PartItemsAre, PartMembersAre, PartObjectIs}
use Rattle.jsonb_codec.specs.PartSource.{items_size, part_laws}
use Rattle.jsonb_codec.specs.Shape.{Shape, Shapes, key_payloads}
use Rattle.jsonb_codec.specs.Source.{Laws, SourceMeaning}
use Rattle.jsonb.specs.declared.node.Node.{Node}
use Rattle.jsonb.specs.Node.{node_tree}
use Rattle.kohiblad.specs.declared.listed.Listed.{Listed}
use Rattle.kohiblad.specs.declared.listed.Listed.TheVariants.{Value, Below}
use Rattle.kohiblad.specs.declared.listed.ListedItems.{ListedItems}
use Rattle.kohiblad.specs.declared.listed.ListedItems.TheVariants.{Values, Children}

-- The trees of values in a list.
abbrev pub listed_trees : List Node → Trees
listed_trees nodes = trees_of (map node_tree nodes)

-- The shape of a value's tree.
abbrev pub ListedIs : Listed → Shape → Type 0
ListedIs (Value node) s = s ≡ shape_of (node_tree node)
ListedIs (Below part) s = PartIs part s

-- The shapes of the trees of items.
abbrev pub ListedItemsAre : ListedItems → Shapes → Type 0
ListedItemsAre (Values nodes) ss = ss ≡ items_shapes (listed_trees nodes.now)
ListedItemsAre (Children children) ss = PartItemsAre children ss

-- A size that decreases level by level: no document has 2^64 bytes.
abbrev pub listed_size : Listed → ℕ
listed_size (Value node) = 2 ^ 64
listed_size (Below part) = length part.payload.now

abbrev pub listed_items_size : ListedItems → ℕ
listed_items_size (Values nodes) = (2 ^ 64 + 1) * length nodes.now
listed_items_size (Children children) = items_size children

-- The meaning of listed values as a source of the writer; there are no invariants to keep.
abbrev pub listed_meaning : SourceMeaning Listed ListedItems Object Members
listed_meaning = record {
  child = ListedIs;
  child_size = listed_size;
  child_held = λ x. ⊤;
  items = ListedItemsAre;
  object = PartObjectIs;
  members = PartMembersAre;
  items_size = listed_items_size;
  object_size = λ object. length object.body.now;
  members_size = λ members. items_size members.values;
  items_held = λ x. ⊤;
  object_held = λ x. ⊤;
  members_held = λ x. ⊤;
}

one_items : (x : ListedItems) (ss us : Shapes) → ListedItemsAre x ss → ListedItemsAre x us
    → ss ≡ us
one_items (Values nodes) ss us h k = h ∙ sym k
one_items (Children children) ss us h k = part_laws.one_items children ss us h k

bare_items : (x : ListedItems) (ss : Shapes) → ListedItemsAre x ss → key_payloads ss ≡ []
bare_items (Values nodes) ss h = ap key_payloads h ∙ bare (listed_trees nodes.now)
bare_items (Children children) ss h = part_laws.bare_items children ss h

pub listed_laws : Laws listed_meaning
listed_laws = record {
  one_items = one_items;
  one_object = part_laws.one_object;
  one_members = part_laws.one_members;
  bare_items = bare_items;
}
