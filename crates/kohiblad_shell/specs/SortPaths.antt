-- Paths by which rows are sorted, in the words of arguments.
use Rattle.std.specs.Prelude.{◌≡◌, ◌⊎◌, ◌++◌, ℕ, List, codes}
use Rattle.kohiblad_shell.specs.declared.sort_path.Direction.{Direction}
use Rattle.kohiblad_shell.specs.declared.sort_path.Direction.TheVariants.{Rising, Falling}

-- The text ends in neither word for a direction.
abbrev pub SaysNone : List ℕ → Type 0
SaysNone text = (path : List ℕ)
    → (text ≡ path ++ codes " desc" → ⊥) × (text ≡ path ++ codes " asc" → ⊥)

-- The text is that of a path and a word for its direction, or of a path that rises alone.
abbrev pub SaysDirection : List ℕ → List ℕ → Direction → Type 0
SaysDirection text path Falling = text ≡ path ++ codes " desc"
SaysDirection text path Rising = (text ≡ path ++ codes " asc") ⊎ ((text ≡ path) × SaysNone text)
