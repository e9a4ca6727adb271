-- How many of some items are equal to each value.
use Rattle.std.specs.Prelude.{◌≡◌, ℕ, List, unwrap_or, if◌then◌else◌}
use Rattle.std.specs.Map.{lookup}
use Rattle.jsonb_value.specs.Tree.{Trees}
use Rattle.jsonb.specs.declared.node.Node.{Node}
use Rattle.jsonb.specs.Node.{node_tree}
use Rattle.jsonb_functions.specs.ArraySets.{are_equal, equals}

-- The count of a value's equals; 0 if it has none.
abbrev pub equals_count : List (Node × ℕ) → Node → ℕ
equals_count counts node =
    unwrap_or (lookup (λ key. are_equal (node_tree node) (node_tree key)) counts) 0

-- Each value has the count of its equals among the items.
abbrev pub CountsEquals : List (Node × ℕ) → Trees → Type 0
CountsEquals counts ts = (node : Node) → equals_count counts node ≡ equals (node_tree node) ts

-- The count of a value's equals becomes that, and the others are unchanged.
abbrev pub SetsEqualsCount : List (Node × ℕ) → List (Node × ℕ) → Node → ℕ → Type 0
SetsEqualsCount old new node n = (other : Node)
    → equals_count new other
    ≡ (if are_equal (node_tree node) (node_tree other) then n else equals_count old other)
