-- The order of rows by the values at paths, and what keys have to do with it.
use Rattle.std.specs.Prelude.{◌≡◌, ⊤, List, [], ◌∷◌, Option, Some, None}
use Rattle.std.specs.Cmp.Lexicographic.{slice_cmp}
use Rattle.std.specs.Ordering.{nat_cmp, ordering_reverse, ordering_then}
use Rattle.std.specs.declared.cmp.Ordering.{Ordering}
use Rattle.std.specs.declared.cmp.Ordering.TheVariants.{Less, Equal, Greater}
use Rattle.jsonb_value.proofs.BigEndian.{AreBytes}
use Rattle.jsonb_value.specs.Tree.{Tree}
use Rattle.jsonb_value.specs.TreeOrder.{tree_cmp}
use Rattle.jsonb_value.specs.WellFormed.{IsTree}
use Rattle.jsonb_comparable.specs.TreeKey.{tree_key}
use Rattle.kohiblad_shell.specs.Asked.{first_asked}
use Rattle.kohiblad_shell.specs.Keys.{row_key}
use Rattle.kohiblad_shell.specs.declared.sort_path.Direction.{Direction}
use Rattle.kohiblad_shell.specs.declared.sort_path.Direction.TheVariants.{Rising, Falling}
use Rattle.kohiblad_shell.specs.declared.sort_path.SortPath.{SortPath}

-- How what a path leads to in two rows compares: nothing is below each value.
abbrev pub found_cmp : Option Tree → Option Tree → Ordering
found_cmp None None = Equal
found_cmp None (Some u) = Less
found_cmp (Some t) None = Greater
found_cmp (Some t) (Some u) = tree_cmp t u

-- The same in a direction.
abbrev pub directed_cmp : Direction → Ordering → Ordering
directed_cmp Rising order = order
directed_cmp Falling order = ordering_reverse order

-- How two rows compare by the values at paths: the first path at which they differ decides, in its
-- direction.
abbrev pub paths_cmp : List SortPath → Tree → Tree → Ordering
paths_cmp [] t u = Equal
paths_cmp (p ∷ ps) t u =
    ordering_then
    (directed_cmp p.direction (found_cmp (first_asked p.path t) (first_asked p.path u)))
    (paths_cmp ps t u)

-- How two rows compare, which are compared themselves if there are no paths.
abbrev pub rows_cmp : List SortPath → Tree → Tree → Ordering
rows_cmp [] t u = tree_cmp t u
rows_cmp (path ∷ paths) t u = paths_cmp (path ∷ paths) t u

-- What a path leads to is nothing, or a value as documents have them, whose key consists of bytes.
abbrev pub HasKey : Option Tree → Type 0
HasKey None = ⊤
HasKey (Some t) = IsTree t × AreBytes (tree_key t)

-- The same of each path.
abbrev pub HavePathKeys : List SortPath → Tree → Type 0
HavePathKeys [] t = ⊤
HavePathKeys (p ∷ ps) t = HasKey (first_asked p.path t) × HavePathKeys ps t

-- The same of the row itself if there are no paths.
abbrev pub HaveKeys : List SortPath → Tree → Type 0
HaveKeys [] t = HasKey (Some t)
HaveKeys (path ∷ paths) t = HavePathKeys (path ∷ paths) t

-- The keys of rows compare as the rows.
abbrev pub KeysDecide : List SortPath → Type 0
KeysDecide paths = (t u : Tree) → HaveKeys paths t → HaveKeys paths u
    → slice_cmp nat_cmp (row_key paths t) (row_key paths u) ≡ rows_cmp paths t u
