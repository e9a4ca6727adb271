-- The shapes that the parts of a document are written as.
use Rattle.std.proofs.Common.{◌≡◌, ◌*◌, ◌≤◌, ℕ, List, [], length, refl, sym, ap, subst, ◌∙◌, arith}
use Rattle.jsonb_value.specs.Tree.{Tree, Trees, Pairs}
use Rattle.jsonb_codec.specs.declared.parts.Children as declared
use Rattle.jsonb_codec.specs.declared.parts.Part.{Part}
use Rattle.jsonb_codec.specs.declared.parts.Members.{Members}
use Rattle.jsonb_codec.specs.declared.parts.Object.{Object}
use Rattle.jsonb_codec.specs.Contents.{PartMeans, AreChildren, AreMembers, FirstMember}
use Rattle.jsonb_codec.specs.Doc.{type_of}
use Rattle.jsonb_codec.specs.Parts.{IsObject}
use Rattle.jsonb_codec.specs.PartSource.{PartIs, PartItemsAre, PartObjectIs, PartMembersAre}
use Rattle.jsonb_codec.specs.Rewriting.{FirstChild}
use Rattle.jsonb_codec.specs.Shape.{Shapes, shape_count}
use Rattle.jsonb_codec.specs.Source.{AreSplit}
use Rattle.jsonb_codec.specs.Canon.{shape_of, items_shapes, pairs_shapes}
use Rattle.jsonb_codec.proofs.Containers.{count-values_of}
use Rattle.jsonb_codec.proofs.Entries.{values_of, length-Children}
use Rattle.jsonb_codec.proofs.PairLaws.{children_of_values}
use Rattle.jsonb_codec.proofs.TreeShapes.{count-items_shapes, count-pairs_shapes}
use Rattle.jsonb_codec.proofs.Unique.{Children-unique, object_unique, pairs_unique, same_tree}

-- A type leaves room for a length.
pub small_type : (t : Tree) {ty : ℕ} → type_of t ≡ ty → ty ≤ 1879048192
small_type t is = grind arith

pub items_are : (ts : Trees) (x : declared.Children) → AreChildren ts x
    → PartItemsAre x (items_shapes ts)
items_are ts x h = ((ts, h), λ us k. ap items_shapes (Children-unique _ _ h k))

pub object_is : (ps : Pairs) (x : Object) → IsObject x.count x.body.now ps
    → PartObjectIs x (pairs_shapes ps)
object_is ps x h = ((ps, h), λ qs k. ap pairs_shapes (object_unique _ _ ps qs h k))

pub members_are : (ps : Pairs) (x : Members) → AreMembers ps x → PartMembersAre x (pairs_shapes ps)
members_are ps x h = ((ps, h), λ qs k. ap pairs_shapes (pairs_unique ps qs _ _ _ _ h k))

-- There are as many items as entry words.
pub items_count : (x : declared.Children) (ss : Shapes) → PartItemsAre x ss
    → length x.entries.now ≡ 4 * shape_count ss
items_count x ss h =
    let ts = h.0.0 in omega (
      arith,
      length-Children ts _ _ h.0.1,
      count-items_shapes ts,
      ap shape_count (h.1 ts h.0.1),
    )

pub object_count : (x : Object) (ss : Shapes) → PartObjectIs x ss → x.count ≡ shape_count ss
object_count x ss h =
    let ps = h.0.0 in omega (arith, h.0.1.0, count-pairs_shapes ps, ap shape_count (h.1 ps h.0.1))

-- Its members are written as the object is.
pub object_members : (x : Object) (ms : Members)
    → ((ps : Pairs) → IsObject x.count x.body.now ps → AreMembers ps ms)
    → (ss : Shapes) → PartObjectIs x ss → PartMembersAre ms ss
object_members x ms are ss h =
    let (ps, k) = h.0 in subst (PartMembersAre ms) (sym (h.1 ps k)) (members_are ps ms (are ps k))

pub members_count : (x : Members) (ss : Shapes) → PartMembersAre x ss
    → length x.values.entries.now ≡ 4 * shape_count ss
members_count x ss h =
    let ps = h.0.0 in omega (
      arith,
      length-Children (values_of ps) _ _ (children_of_values ps _ _ h.0.1.1.1),
      count-values_of ps,
      count-pairs_shapes ps,
      ap shape_count (h.1 ps h.0.1),
    )

-- The first child and the others are written as their shapes.
part_is : (part : Part) (t : Tree) → PartMeans part t → PartIs part (shape_of t)
part_is part t h =
    ((t, h), λ u k. ap shape_of (same_tree t u (h.0 ∙ sym k.0) _ h.1 k.1))

pub split_member : (part : Part) (x later : Members) {key : List ℕ} (IsKey : List ℕ → Type 0)
    → IsKey key
    → ((ps : Pairs) → AreMembers ps x → FirstMember ps key part.type_code part.payload.now later)
    → (ss : Shapes) → PartMembersAre x ss → AreSplit IsKey PartIs PartMembersAre (part, later) ss
split_member part x later IsKey keyed first ss h =
    let f = first h.0.0 h.0.1 in
    subst (AreSplit IsKey PartIs PartMembersAre (part, later))
    (sym (h.1 h.0.0 h.0.1 ∙ ap pairs_shapes f.are))
    (keyed, (part_is part f.value f.is, members_are f.others later f.left))

pub split_item : (part : Part) (x later : declared.Children)
    → ((ts : Trees) → AreChildren ts x
    → FirstChild ts part.type_code part.payload.now later.entries.now later.payloads.now)
    → (ss : Shapes) → PartItemsAre x ss
    → AreSplit (λ key. key ≡ []) PartIs PartItemsAre (part, later) ss
split_item part x later first ss h =
    let f = first h.0.0 h.0.1 in
    subst (AreSplit (λ key. key ≡ []) PartIs PartItemsAre (part, later))
    (sym (h.1 h.0.0 h.0.1 ∙ ap items_shapes f.are))
    (refl, (part_is part f.first f.is, items_are f.others later f.later))
