-- The canonical documents among all byte strings.
use Rattle.std.specs.Prelude.{◌≡◌, ℕ, List}
use Rattle.jsonb_value.specs.Tree.{Tree, Trees}
use Rattle.jsonb_value.specs.WellFormed.{IsTree}
use Rattle.jsonb_codec.specs.Shape.{entries, payloads, FitsInside, AllFit}
use Rattle.jsonb_codec.specs.Canon.{shape_of, items_shapes, payload_of, canon, Fits}

-- The bytes are the canonical document of some tree that has one.
abbrev pub IsCanonical : List ℕ → Type 0
IsCanonical b = (t : Tree) × (IsTree t × (Fits t × (canon t ≡ b)))

-- The payload is the one that is written for the tree.
abbrev pub IsWritten : Tree → List ℕ → Type 0
IsWritten t p = FitsInside (shape_of t) × (payload_of t ≡ p)

-- The entry words and payloads are those that are written for these children.
abbrev pub AreWritten : Trees → List ℕ → List ℕ → Type 0
AreWritten ts es ps = AllFit (items_shapes ts)
    × ((entries (items_shapes ts) ≡ es) × (payloads (items_shapes ts) ≡ ps))
