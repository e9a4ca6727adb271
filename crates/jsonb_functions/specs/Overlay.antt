-- What documents that are laid over stored ones are written as.
use Rattle.std.specs.Prelude.{◌≡◌, ℕ, ⊤, length}
use Rattle.std.proofs.Common.{ap, sym, ◌∙◌}
use Rattle.jsonb_value.specs.Tree.{Tree, Trees, tree, Pairs, pair, pair_count}
use Rattle.jsonb_codec.specs.declared.parts.Children.{Children}
use Rattle.jsonb_codec.specs.declared.parts.Members.{Members}
use Rattle.jsonb_codec.specs.declared.parts.Object.{Object}
use Rattle.jsonb_codec.specs.declared.parts.Part.{Part}
use Rattle.jsonb_codec.specs.Canon.{shape_of, items_shapes, pairs_shapes, bare}
use Rattle.jsonb_codec.specs.Contents.{PartMeans, AreChildren, AreMembers}
use Rattle.jsonb_codec.specs.PartSource.{Shaped, one_shaped}
use Rattle.jsonb_codec.specs.PartSource as parts
use Rattle.jsonb_codec.specs.Parts.{IsObject}
use Rattle.jsonb_codec.specs.Shape.{key_payloads}
use Rattle.jsonb_codec.specs.Source.{SourceMeaning, Laws}
use Rattle.jsonb_codec.proofs.Unique.{same_tree}
use Rattle.jsonb_functions.specs.declared.overlay.Counted.{Counted}
use Rattle.jsonb_functions.specs.declared.overlay.Laid.{Laid}
use Rattle.jsonb_functions.specs.declared.overlay.Laid.TheVariants.{Kept, Changed}
use Rattle.jsonb_functions.specs.declared.overlay.LaidMember.{LaidMember}

-- What a rule makes of values, items and members: their trees, and a size that decreases level by
-- level.
pub record OverlayMeaning (V I M : Type 0) : Type 1 where
  pub value : V → Tree → Type 0
  pub items : I → Trees → Type 0
  pub members : M → Pairs → Type 0
  pub value_size : V → ℕ
  pub items_size : I → ℕ
  pub members_size : M → ℕ

-- Each of them means one tree, or one list.
pub record OverlayLaws {V I M : Type 0} (m : OverlayMeaning V I M) : Type 0 where
  pub one_value : (x : V) (t u : Tree) → m.value x t → m.value x u → t ≡ u
  pub one_items : (x : I) (ts us : Trees) → m.items x ts → m.items x us → ts ≡ us
  pub one_members : (x : M) (ps qs : Pairs) → m.members x ps → m.members x qs → ps ≡ qs

-- It is what a function makes of something that is meant.
abbrev pub Becomes : {A B : Type 0} → (A → Type 0) → (A → B) → B → Type 0
Becomes {A} IsMeant f b = (a : A) × (IsMeant a × (b ≡ f a))

-- It means one thing if that does.
pub one_becomes : {A B : Type 0} (IsMeant : A → Type 0) (f : A → B)
    → ((a b : A) → IsMeant a → IsMeant b → a ≡ b)
    → (x y : B) → Becomes IsMeant f x → Becomes IsMeant f y → x ≡ y
one_becomes IsMeant f one x y h k = h.1.1 ∙ ap f (one h.0 k.0 h.1.0 k.1.0) ∙ sym k.1.1

-- Two things together are one, if each is.
pub one_pair : {A B : Type 0} (IsFirst : A → Type 0) (IsSecond : B → Type 0)
    → ((a b : A) → IsFirst a → IsFirst b → a ≡ b)
    → ((a b : B) → IsSecond a → IsSecond b → a ≡ b)
    → (p q : A × B) → IsFirst p.0 × IsSecond p.1 → IsFirst q.0 × IsSecond q.1 → p ≡ q
one_pair IsFirst IsSecond first second p q h k =
    ap (λ a. (a, p.1)) (first p.0 q.0 h.0 k.0) ∙ ap (λ b. (q.0, b)) (second p.1 q.1 h.1 k.1)

-- A part means one tree.
pub part_unique : (part : Part) (t u : Tree) → PartMeans part t → PartMeans part u → t ≡ u
part_unique part t u h k = same_tree t u (h.0 ∙ sym k.0) _ h.1 k.1

-- What is kept is meant in one way, and what is changed in another.
abbrev pub LaidMeans : {K C X : Type 0} → (K → X → Type 0) → (C → X → Type 0) → Laid K C → X
    → Type 0
LaidMeans kept changed (Kept x) = kept x
LaidMeans kept changed (Changed x) = changed x

abbrev pub laid_by : {K C : Type 0} → (K → ℕ) → (C → ℕ) → Laid K C → ℕ
laid_by kept changed (Kept x) = kept x
laid_by kept changed (Changed x) = changed x

module _ {V I M : Type 0} (m : OverlayMeaning V I M) where
  -- The tree of a value, the trees of items and the pairs of members.
  abbrev pub ValueMeans : Laid Part V → Tree → Type 0
  ValueMeans = LaidMeans PartMeans m.value

  abbrev pub ItemsMean : Laid Children I → Trees → Type 0
  ItemsMean = LaidMeans (λ x ts. AreChildren ts x) m.items

  abbrev pub LaterMean : Laid Members M → Pairs → Type 0
  LaterMean = LaidMeans (λ x ps. AreMembers ps x) m.members

  -- The same of members that are counted.
  abbrev pub CountedMean : Counted M → Pairs → Type 0
  CountedMean x ps = m.members x.members ps × (x.count ≡ pair_count ps)

  abbrev pub ObjectMeans : Laid Object (Counted M) → Pairs → Type 0
  ObjectMeans = LaidMeans (λ x ps. IsObject x.count x.body.now ps) CountedMean

  abbrev pub MembersMean : Laid Members (Counted M) → Pairs → Type 0
  MembersMean = LaidMeans (λ x ps. AreMembers ps x) CountedMean

  -- How much is left to write of them.
  abbrev pub laid_size : Laid Part V → ℕ
  laid_size = laid_by (λ x. length x.payload.now) m.value_size

  abbrev pub laid_items_size : Laid Children I → ℕ
  laid_items_size = laid_by parts.items_size m.items_size

  abbrev pub laid_object_size : Laid Object (Counted M) → ℕ
  laid_object_size = laid_by (λ x. length x.body.now) (λ x. m.members_size x.members)

  abbrev pub laid_members_size : Laid Members (Counted M) → ℕ
  laid_members_size = laid_by (λ x. parts.items_size x.values) (λ x. m.members_size x.members)

  abbrev pub later_size : Laid Members M → ℕ
  later_size = laid_by (λ x. parts.items_size x.values) m.members_size

  -- What the writer writes.
  abbrev pub written : SourceMeaning (Laid Part V) (Laid Children I) (Laid Object (Counted M))
      (Laid Members (Counted M))
  written = record {
    child = λ x. Shaped (ValueMeans x) shape_of;
    child_size = laid_size;
    child_held = λ x. ⊤;
    items = λ x. Shaped (ItemsMean x) items_shapes;
    object = λ x. Shaped (ObjectMeans x) pairs_shapes;
    members = λ x. Shaped (MembersMean x) pairs_shapes;
    items_size = laid_items_size;
    object_size = laid_object_size;
    members_size = laid_members_size;
    items_held = λ x. ⊤;
    object_held = λ x. ⊤;
    members_held = λ x. ⊤;
  }

  pub written_laws : Laws written
  written_laws = record {
    one_items = λ x. one_shaped _ _;
    one_object = λ x. one_shaped _ _;
    one_members = λ x. one_shaped _ _;
    bare_items = λ x ss h. ap key_payloads (h.1 h.0.0 h.0.1) ∙ bare h.0.0;
  }

  -- The trees begin with that of a value, and the others are those of the items after it.
  pub record NextItemIs (ts : Trees) (x : Laid Part V × Laid Children I) : Type 0 where
    pub first : Tree
    pub others : Trees
    pub are : ts ≡ tree first others
    pub is : ValueMeans x.0 first
    pub left : ItemsMean x.1 others

  -- The pairs begin with a member, and the others are those of the members after it.
  pub record NextMemberIs (ps : Pairs) (x : LaidMember V M) : Type 0 where
    pub first : Tree
    pub others : Pairs
    pub are : ps ≡ pair x.key.now first others
    pub is : ValueMeans x.value first
    pub left : LaterMean x.later others
