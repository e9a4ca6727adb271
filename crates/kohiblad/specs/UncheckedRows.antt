-- What is read of rows that are not checked.
use Rattle.std.specs.Prelude.{◌≡◌, ℕ, Option, None, Some, option_map, Result, Ok, Err}
use Rattle.jsonb_value.specs.Tree.{Tree}
use Rattle.jsonb.specs.Node.{IsContainer, node_tree}
use Rattle.jsonb.specs.declared.node.Node.{Node}

-- The member, or none, is read; an array or object is not read, and the state is 3.
abbrev pub IsReadAs : Option Tree → Result (Option Node) ℕ → Type 0
IsReadAs found (Ok member) = option_map node_tree member ≡ found
IsReadAs (Some t) (Err state) = (state ≡ 3) × IsContainer t
IsReadAs None (Err state) = ⊥
