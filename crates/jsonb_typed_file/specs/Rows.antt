-- The rows of a file, made of their rests and of their members in columns.
use Rattle.std.specs.Prelude.{◌≡◌, ℕ, List, [], ◌∷◌, Option, None, Some, Result, IfOk}
use Rattle.jsonb_value.specs.declared.error.Error.{Error}
use Rattle.jsonb_value.specs.Tree.{Tree, object, Pairs, no_pairs, pair}
use Rattle.jsonb_codec.specs.Canon.{Fits, canon}
use Rattle.jsonb.specs.declared.owned.OwnedJsonb.{OwnedJsonb}
use Rattle.jsonb.specs.Document.{tree_in}
use Rattle.jsonb.specs.Owned.{owned_bytes}
use Rattle.jsonb_functions.specs.Joined.{merged}
use Rattle.jsonb_functions.specs.MadeWithMemory.{MadeWithMemory}
use Rattle.jsonb_typed_file.specs.Layout.{Contents, Parts}
use Rattle.jsonb_typed_file.specs.Values.{column_cell, string_at}

-- The members with a column's value before them, if it has one.
abbrev pub with_stored : List ℕ → Option Tree → Pairs → Pairs
with_stored name None qs = qs
with_stored name (Some t) qs = pair name t qs

-- The members of a row that are kept in columns.
abbrev pub column_members : List Parts → ℕ → Pairs
column_members [] index = no_pairs
column_members (p ∷ ps) index = with_stored p.name (column_cell p index) (column_members ps index)

-- An object with these members put into it. Any other tree stays as it is.
abbrev pub with_fields : Tree → Pairs → Tree
with_fields (object ps) qs = object (merged ps qs)
with_fields t qs = t

-- The tree of a row's rest.
abbrev pub rest_tree : Contents → ℕ → Tree
rest_tree f index = tree_in (string_at f.offsets f.documents index)

-- The tree of a row: its rest with the members that are kept in columns.
abbrev pub row_tree : Contents → ℕ → Tree
row_tree f index = with_fields (rest_tree f index) (column_members f.columns index)

-- The result is the canonical document of the tree, which is made only if it fits the format.
pub record IsMadeRow (t : Tree) (result : Result OwnedJsonb Error) : Type 0 where
  pub document : IfOk result (λ owned. owned_bytes owned ≡ canon t)
  pub limits : MadeWithMemory (Fits t) result
