-- What the sink of values holds.
use Rattle.std.specs.Prelude.{◌≡◌, List, [], ◌∷◌, map, reverse, string_bytes, String, ℕ, ⊤}
use Rattle.std.specs.declared.alloc.Global.{Global}
use Rattle.jsonb_value.specs.Tree.{Tree}
use Rattle.jsonb_value.specs.Value.{tree_of}
use Rattle.jsonb_value.specs.Reader.Content.{members_held}
use Rattle.jsonb_value.specs.Reader.Resume.{Content, State, items, members, at_key, going, whole}
use Rattle.jsonb_value.specs.Reader.Resume.{lost}
use Rattle.jsonb_value.specs.declared.value.Value.{Value}
use Rattle.jsonb_value.specs.declared.parser.trees.Container.{Container}
use Rattle.jsonb_value.specs.declared.parser.trees.Container.TheVariants as containers
use Rattle.jsonb_value.specs.declared.parser.trees.Trees.{Trees}

-- A member as the bytes of its key and the tree of its value.
abbrev pub entry_of : String Global × Value → List ℕ × Tree
entry_of e = (string_bytes e.0, tree_of e.1)

-- The container has this content.
abbrev pub ContainerHolds : Container → Content → Type 0
ContainerHolds (containers.Array vs) (items front) = map tree_of vs.items ≡ front
ContainerHolds (containers.Object ms) (members front) = map entry_of (members_held ms) ≡ front
ContainerHolds (containers.Object ms) (at_key front k) =
    (map entry_of (members_held ms) ≡ front) × (string_bytes ms.key ≡ k)
ContainerHolds _ _ = ⊥

-- The containers, the innermost first, have these contents; the outermost is the place of the whole
-- value.
abbrev pub AreHeldOpen : List Container → List Content → Type 0
AreHeldOpen (containers.Whole v ∷ []) [] = ⊤
AreHeldOpen (d ∷ ds) (c ∷ cs) = ContainerHolds d c × AreHeldOpen ds cs
AreHeldOpen _ _ = ⊥

-- The containers are those of the state.
abbrev pub AreHeldIn : List Container → State → Type 0
AreHeldIn ds (going cs) = AreHeldOpen ds cs
AreHeldIn (containers.Whole v ∷ []) (whole t) = tree_of v ≡ t
AreHeldIn _ (whole t) = ⊥
AreHeldIn ds lost = ⊤

-- The sink is in the state.
abbrev pub trees_are : Trees → State → Type 0
trees_are s = AreHeldIn (s.innermost ∷ reverse s.outer.items)
