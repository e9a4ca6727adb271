-- The text of a container, line by line.
use Rattle.std.specs.Prelude.{◌+◌, ◌<◌, ◌^◌, ℕ, ⊤, List, [], ◌∷◌, ◌++◌, codes}
use Rattle.jsonb_value.specs.Tree.{Tree, Trees, no_trees, tree, Pairs, no_pairs, pair}
use Rattle.jsonb_value.specs.Text.{Layout, in_one_line, on_lines, inside, line_start, colon_text}
use Rattle.jsonb_value.specs.Text.{laid_out, string_text}

-- The text of the lines after the first.
abbrev pub more_lines : Layout → List (List ℕ) → List ℕ
more_lines l [] = []
more_lines l (line ∷ lines) = codes "," ++ (line_start l ++ (line ++ more_lines l lines))

-- The text of lines between brackets.
abbrev pub bracket_text : Layout → List ℕ → List ℕ → List (List ℕ) → List ℕ
bracket_text l front end [] = front ++ end
bracket_text l front end (line ∷ lines) = front
    ++ (line_start (inside l) ++ (line ++ (more_lines (inside l) lines ++ (line_start l ++ end))))

-- The text of a pair.
abbrev pub pair_text : Layout → List ℕ → Tree → List ℕ
pair_text l k t = string_text k ++ (colon_text l ++ laid_out l t)

-- What stands between a pair and the value of the next one.
abbrev pub next_key : Layout → List ℕ → List ℕ
next_key l k = codes "," ++ (line_start l ++ (string_text k ++ colon_text l))

-- The lines of an array's items.
abbrev pub item_lines : Layout → Trees → List (List ℕ)
item_lines l no_trees = []
item_lines l (tree t ts) = laid_out l t ∷ item_lines l ts

-- The lines of an object's pairs.
abbrev pub pair_lines : Layout → Pairs → List (List ℕ)
pair_lines l no_pairs = []
pair_lines l (pair k t ps) = pair_text l k t ∷ pair_lines l ps

-- The indentation inside n more containers fits 64 bits.
abbrev pub HasIndentRoom : Layout → ℕ → Type 0
HasIndentRoom in_one_line n = ⊤
HasIndentRoom (on_lines depth) n = depth + n < 2 ^ 64
