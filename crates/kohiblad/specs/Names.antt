-- The names that documents give.
use Rattle.std.specs.Prelude.{ℕ, List, [], ◌∷◌, Option, None, Some}
use Rattle.jsonb_value.specs.Tree.{Tree, text, array}
use Rattle.jsonb_value.specs.Tree.{Trees, no_trees, tree}

-- The name that a tree is: a text.
abbrev pub name_in : Tree → Option (List ℕ)
name_in (text s) = Some s
name_in t = None

-- A name before others, if there are both.
abbrev pub name_then : Option (List ℕ) → Option (List (List ℕ)) → Option (List (List ℕ))
name_then (Some s) (Some names) = Some (s ∷ names)
name_then (Some s) None = None
name_then None names = None

-- The names that these trees are, if each is one.
abbrev pub all_names : Trees → Option (List (List ℕ))
all_names no_trees = Some []
all_names (tree t ts) = name_then (name_in t) (all_names ts)

-- The names that a tree gives: the texts of an array, if all its items are texts.
abbrev pub names_in : Tree → Option (List (List ℕ))
names_in (array ts) = all_names ts
names_in t = None
