-- The shapes that a level of a value and its children are written as.
use Rattle.std.specs.Prelude.{◌≡◌, ℕ, List, [], ⊤}
use Rattle.jsonb_codec.specs.declared.writer.source.Level.{Level}
use Rattle.jsonb_codec.specs.declared.writer.source.Level.TheVariants as levels
use Rattle.jsonb_codec.specs.Shape.{Shape, leaf, array, object, Shapes, no_shapes, shape}
use Rattle.jsonb_codec.specs.Shape.{key_payloads}

-- For a source's children, arrays, objects and iterations over members: the shapes that they are
-- written as, a size that decreases level by level, and the invariants that their types guarantee.
pub record SourceMeaning (C I O M : Type 0) : Type 1 where
  pub child : C → Shape → Type 0
  pub items : I → Shapes → Type 0
  pub object : O → Shapes → Type 0
  pub members : M → Shapes → Type 0
  pub child_size : C → ℕ
  pub items_size : I → ℕ
  pub object_size : O → ℕ
  pub members_size : M → ℕ
  pub child_held : C → Type 0
  pub items_held : I → Type 0
  pub object_held : O → Type 0
  pub members_held : M → Type 0

-- Each of them is written as only one list of shapes, and an array's items have no keys.
pub record Laws {C I O M : Type 0} (m : SourceMeaning C I O M) : Type 0 where
  pub one_items : (x : I) (ss us : Shapes) → m.items x ss → m.items x us → ss ≡ us
  pub one_object : (x : O) (ss us : Shapes) → m.object x ss → m.object x us → ss ≡ us
  pub one_members : (x : M) (ss us : Shapes) → m.members x ss → m.members x us → ss ≡ us
  pub bare_items : (x : I) (ss : Shapes) → m.items x ss → key_payloads ss ≡ []

-- A level is written as this shape: a leaf by its code, a container by its children.
abbrev pub LevelIs : {L C I O M : Type 0} → (L → ℕ × List ℕ) → SourceMeaning C I O M
    → Level L I O → Shape
    → Type 0
LevelIs code m (levels.Leaf x) s = s ≡ leaf (code x).0 (code x).1
LevelIs code m (levels.Array x) s = (ss : Shapes) × ((s ≡ array ss) × m.items x ss)
LevelIs code m (levels.Object x) s = (ss : Shapes) × ((s ≡ object ss) × m.object x ss)

-- The shapes consist of a first child with such a key and the others after it.
abbrev pub AreSplit : {C W : Type 0} → (List ℕ → Type 0) → (C → Shape → Type 0)
    → (W → Shapes → Type 0) → C × W → Shapes → Type 0
AreSplit IsKey IsChild AreOthers x no_shapes = ⊥
AreSplit IsKey IsChild AreOthers x (shape k s ss) = IsKey k × (IsChild x.0 s × AreOthers x.1 ss)

-- The size of a level's content.
abbrev pub level_size : {L C I O M : Type 0} → SourceMeaning C I O M → Level L I O → ℕ
level_size m (levels.Leaf x) = 0
level_size m (levels.Array x) = m.items_size x
level_size m (levels.Object x) = m.object_size x

-- The content of a level satisfies the invariants of its types.
abbrev pub LevelHeld : {L C I O M : Type 0} → SourceMeaning C I O M → Level L I O → Type 0
LevelHeld m (levels.Leaf x) = ⊤
LevelHeld m (levels.Array x) = m.items_held x
LevelHeld m (levels.Object x) = m.object_held x
