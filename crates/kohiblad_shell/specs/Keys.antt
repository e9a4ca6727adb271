-- The keys of rows.
use Rattle.std.specs.Prelude.{◌≡◌, ℕ, List, [], ◌∷◌, ◌++◌, Option, Some, None, true}
use Rattle.jsonb_value.specs.Tree.{Tree}
use Rattle.jsonb_comparable.specs.TreeKey.{tree_key}
use Rattle.jsonb_comparable.specs.NumberKey.{complemented}
use Rattle.kohiblad_shell.specs.Asked.{first_asked}
use Rattle.kohiblad_shell.specs.declared.key.GrowingKey.{GrowingKey}
use Rattle.kohiblad_shell.specs.declared.sort_path.Direction.{Direction}
use Rattle.kohiblad_shell.specs.declared.sort_path.Direction.TheVariants.{Rising, Falling}
use Rattle.kohiblad_shell.specs.declared.sort_path.SortPath.{SortPath}

-- The key of what a path leads to; the byte 0, which is below all others, if it leads nowhere.
abbrev pub path_key : Option Tree → List ℕ
path_key None = 0 ∷ []
path_key (Some t) = tree_key t

-- A key as it stands, or each of its bytes subtracted from 255.
abbrev pub directed : Direction → List ℕ → List ℕ
directed Rising key = key
directed Falling key = complemented key

-- The keys of the first values to which the paths lead, in their directions, one after another.
abbrev pub path_keys : List SortPath → Tree → List ℕ
path_keys [] t = []
path_keys (p ∷ ps) t = directed p.direction (path_key (first_asked p.path t)) ++ path_keys ps t

-- The key of a row: those of its values at the paths, or its own if there are no paths.
abbrev pub row_key : List SortPath → Tree → List ℕ
row_key [] t = tree_key t
row_key (path ∷ paths) t = path_keys (path ∷ paths) t

-- A key is whole only if it was whole before, and has more bytes.
abbrev pub AppendsKey : GrowingKey → GrowingKey → List ℕ → Type 0
AppendsKey old new bytes = new.is_whole ≡ true
    → (old.is_whole ≡ true) × (new.bytes.items ≡ old.bytes.items ++ bytes)
