-- What documents that are laid over stored ones are written as.
use Rattle.std.proofs.Common.{◌≡◌, ◌/◌, ℕ, List, [], length, refl, sym, ap, ◌∙◌, subst, arith}
use Rattle.std.proofs.Common.{Option, Some, None}
use Rattle.std.specs.Prelude.{MatchOption}
use Rattle.jsonb_value.specs.Tree as trees
use Rattle.jsonb_value.specs.Tree.{Tree, array, object, Trees, no_trees, Pairs, no_pairs}
use Rattle.jsonb_value.specs.Tree.{pair, pair_count}
use Rattle.jsonb_codec.specs.declared.parts.Children as declared
use Rattle.jsonb_codec.specs.declared.parts.Members.{Members}
use Rattle.jsonb_codec.specs.declared.parts.Object.{Object}
use Rattle.jsonb_codec.specs.declared.parts.Part.{Part}
use Rattle.jsonb_codec.specs.Canon.{shape_of, items_shapes, pairs_shapes}
use Rattle.jsonb_codec.specs.Contents.{PartMeans, AreChildren, AreMembers}
use Rattle.jsonb_codec.specs.PartSource.{PartIs}
use Rattle.jsonb_codec.specs.Shape as shapes
use Rattle.jsonb_codec.specs.Shape.{Shape, Shapes, no_shapes, shape_count}
use Rattle.jsonb_codec.specs.Source.{AreSplit}
use Rattle.jsonb_codec.proofs.Decision.{known_part}
use Rattle.jsonb_codec.proofs.Entries.{length-Children}
use Rattle.jsonb_codec.proofs.PartLaws as part_laws
use Rattle.jsonb_codec.proofs.TreeShapes.{count-items_shapes, count-pairs_shapes}
use Rattle.jsonb_codec.proofs.Unique.{Children-unique, pairs_unique, object_unique}
use Rattle.jsonb.specs.EntryTrees.{part_tree}
use Rattle.jsonb.proofs.EntryTreeLaws.{entry_tree-is}
use Rattle.jsonb_functions.specs.declared.overlay.Counted.{Counted}
use Rattle.jsonb_functions.specs.declared.overlay.Laid.{Laid}
use Rattle.jsonb_functions.specs.declared.overlay.Laid.TheVariants.{Kept, Changed}
use Rattle.jsonb_functions.specs.Overlay.{OverlayMeaning, OverlayLaws, ValueMeans, part_unique}
use Rattle.jsonb_functions.specs.Overlay.{ItemsMean, ObjectMeans, MembersMean, NextItemIs, written}

-- ---- parts

pub item_count : (items : declared.Children) (ts : Trees) → AreChildren ts items
    → length items.entries.now / 4 ≡ trees.count ts
item_count items ts h = omega (arith, length-Children ts _ _ h)

pub member_count : (members : Members) (ps : Pairs) → AreMembers ps members
    → length members.values.entries.now / 4 ≡ pair_count ps
member_count members ps h = omega (
  arith,
  part_laws.members_count members (pairs_shapes ps) (part_laws.members_are ps members h),
  count-pairs_shapes ps,
)

pub part_is : (part : Part) (t : Tree) → PartMeans part t → PartIs part (shape_of t)
part_is part t h = ((t, h), λ u k. ap shape_of (part_unique part t u h k))

pub known_shape : (part : Part) → (s : Shape) × PartIs part s
known_shape part = let (t, h) = known_part _ _ part.fact in (shape_of t, part_is part t h)

-- A part means its tree.
pub part_tree_means : (part : Part) → PartMeans part (part_tree part)
part_tree_means part =
    let (t, h) = known_part _ _ part.fact in
    rw (entry_tree-is part.type_code part.payload.now t h) h

-- ---- what is laid over them

module _ {V I M : Type 0} (m : OverlayMeaning V I M) (laws : OverlayLaws m) where
  value_unique : (x : Laid Part V) (t u : Tree) → ValueMeans m x t → ValueMeans m x u → t ≡ u
  value_unique (Kept part) t u h k = part_unique part t u h k
  value_unique (Changed x) t u h k = laws.one_value x t u h k

  items_unique : (x : Laid declared.Children I) (ts us : Trees) → ItemsMean m x ts
      → ItemsMean m x us → ts ≡ us
  items_unique (Kept items) ts us h k = Children-unique _ _ h k
  items_unique (Changed x) ts us h k = laws.one_items x ts us h k

  object_unique_laid : (x : Laid Object (Counted M)) (ps qs : Pairs) → ObjectMeans m x ps
      → ObjectMeans m x qs → ps ≡ qs
  object_unique_laid (Kept x) ps qs h k = object_unique _ _ ps qs h k
  object_unique_laid (Changed x) ps qs h k = laws.one_members x.members ps qs h.0 k.0

  members_unique : (x : Laid Members (Counted M)) (ps qs : Pairs) → MembersMean m x ps
      → MembersMean m x qs → ps ≡ qs
  members_unique (Kept x) ps qs h k = pairs_unique ps qs _ _ _ _ h k
  members_unique (Changed x) ps qs h k = laws.one_members x.members ps qs h.0 k.0

  value_is : (x : Laid Part V) (t : Tree) → ValueMeans m x t → (written m).child x (shape_of t)
  value_is x t h = ((t, h), λ u k. ap shape_of (value_unique x t u h k))

  items_are : (x : Laid declared.Children I) (ts : Trees) → ItemsMean m x ts
      → (written m).items x (items_shapes ts)
  items_are x ts h = ((ts, h), λ us k. ap items_shapes (items_unique x ts us h k))

  members_are : (x : Laid Members (Counted M)) (ps : Pairs) → MembersMean m x ps
      → (written m).members x (pairs_shapes ps)
  members_are x ps h = ((ps, h), λ qs k. ap pairs_shapes (members_unique x ps qs h k))

  -- The level of an array or an object.
  pub array_is : (x : Laid declared.Children I) (t : Tree) (ts : Trees) → t ≡ array ts
      → ItemsMean m x ts
      → (ss : Shapes) × ((shape_of t ≡ shapes.array ss) × (written m).items x ss)
  array_is x t ts is h = (items_shapes ts, (ap shape_of is, items_are x ts h))

  pub object_is : (x : Laid Object (Counted M)) (t : Tree) (ps : Pairs) → t ≡ object ps
      → ObjectMeans m x ps
      → (ss : Shapes) × ((shape_of t ≡ shapes.object ss) × (written m).object x ss)
  object_is x t ps is h = (
    pairs_shapes ps,
    (ap shape_of is, ((ps, h), λ qs k. ap pairs_shapes (object_unique_laid x ps qs h k))),
  )

  -- The first item.
  pub item_split : (x : Laid declared.Children I)
      (next : Option (Laid Part V × Laid declared.Children I))
      → ((ts : Trees) → ItemsMean m x ts
      → MatchOption next (ts ≡ no_trees) (λ y. NextItemIs m ts y))
      → (ss : Shapes) → (written m).items x ss
      → MatchOption next (ss ≡ no_shapes)
      (λ y. AreSplit (λ key. key ≡ []) (written m).child (written m).items y ss)
  item_split x None first ss h = h.1 h.0.0 h.0.1 ∙ ap items_shapes (first h.0.0 h.0.1)
  item_split x (Some y) first ss h =
      let f = first h.0.0 h.0.1 in
      subst (AreSplit (λ key. key ≡ []) (written m).child (written m).items y)
      (sym (h.1 h.0.0 h.0.1 ∙ ap items_shapes f.are))
      (refl, (value_is y.0 f.first f.is, items_are y.1 f.others f.left))

  -- The first member.
  pub member_split : (IsKey : List ℕ → Type 0) (x later : Laid Members (Counted M))
      (value : Laid Part V) (key : List ℕ) → IsKey key
      → ((ps : Pairs) → MembersMean m x ps → (t : Tree) × ((qs : Pairs)
      × ((ps ≡ pair key t qs) × (ValueMeans m value t × MembersMean m later qs))))
      → (ss : Shapes) → (written m).members x ss
      → AreSplit IsKey (written m).child (written m).members (value, later) ss
  member_split IsKey x later value key keyed first ss h =
      let (t, (qs, (are, (is, left)))) = first h.0.0 h.0.1 in
      subst (AreSplit IsKey (written m).child (written m).members (value, later))
      (sym (h.1 h.0.0 h.0.1 ∙ ap pairs_shapes are))
      (keyed, (value_is value t is, members_are later qs left))

  pub members_of_object : (x : Laid Object (Counted M)) (members : Laid Members (Counted M))
      → ((ps : Pairs) → ObjectMeans m x ps → MembersMean m members ps)
      → (ss : Shapes) → (written m).object x ss → (written m).members members ss
  members_of_object x members are ss h =
      subst ((written m).members members) (sym (h.1 h.0.0 h.0.1))
      (members_are members h.0.0 (are h.0.0 h.0.1))

module _ {V I M : Type 0} (m : OverlayMeaning V I M) where
  pub items_number : (x : Laid declared.Children I) (n : ℕ)
      → ((ts : Trees) → ItemsMean m x ts → n ≡ trees.count ts)
      → (ss : Shapes) → (written m).items x ss → n ≡ shape_count ss
  items_number x n known ss h =
      known h.0.0 h.0.1 ∙ sym (ap shape_count (h.1 h.0.0 h.0.1) ∙ count-items_shapes h.0.0)

  pub object_number : (x : Laid Object (Counted M)) (n : ℕ)
      → ((ps : Pairs) → ObjectMeans m x ps → n ≡ pair_count ps)
      → (ss : Shapes) → (written m).object x ss → n ≡ shape_count ss
  object_number x n known ss h =
      known h.0.0 h.0.1 ∙ sym (ap shape_count (h.1 h.0.0 h.0.1) ∙ count-pairs_shapes h.0.0)

  pub members_number : (x : Laid Members (Counted M)) (n : ℕ)
      → ((ps : Pairs) → MembersMean m x ps → n ≡ pair_count ps)
      → (ss : Shapes) → (written m).members x ss → n ≡ shape_count ss
  members_number x n known ss h =
      known h.0.0 h.0.1 ∙ sym (ap shape_count (h.1 h.0.0 h.0.1) ∙ count-pairs_shapes h.0.0)

  pub no_member : (x : Laid Members (Counted M))
      → ((ps : Pairs) → MembersMean m x ps → ps ≡ no_pairs)
      → (ss : Shapes) → (written m).members x ss → ss ≡ no_shapes
  no_member x none ss h = h.1 h.0.0 h.0.1 ∙ ap pairs_shapes (none h.0.0 h.0.1)
