-- The members of an object in a table.
use Rattle.std.specs.Prelude.{◌≡◌, ℕ, List, map}
use Rattle.jsonb_value.specs.Tree.{Ascend, Tree}
use Rattle.jsonb.specs.Node.{node_tree, object_of, pairs_of, value_of_key}
use Rattle.kohiblad.specs.declared.member_table.MemberTable.{MemberTable}

-- The table has these keys and trees.
pub record AreMembersOf (ps : List (List ℕ × Tree)) (table : MemberTable) : Type 0 where
  pub keys : map (λ key. key.now) table.keys.items ≡ map (λ p. p.0) ps
  pub values : map node_tree table.values.items ≡ map (λ p. p.1) ps

-- The table has members whose keys ascend, and which have the values of the tree's keys.
abbrev pub IsTableOf : Tree → MemberTable → Type 0
IsTableOf t table = (ps : List (List ℕ × Tree)) × (AreMembersOf ps table
    × (Ascend (pairs_of ps)
    × ((name : List ℕ) → value_of_key name (object_of ps) ≡ value_of_key name t)))
