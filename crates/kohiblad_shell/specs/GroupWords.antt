-- The words that say what is reckoned of groups, and the names of members.
use Rattle.std.specs.Prelude.{◌≡◌, ◌≢◌, ◌⊎◌, ◌+◌, ◌++◌, ℕ, Bool, true, false, List, [], ◌∷◌, cond}
use Rattle.std.specs.Prelude.{codes}
use Rattle.std.specs.Borrow.{Bor}
use Rattle.std.specs.Str.{bytes_eq}

-- How many words, from the first on, say aggregates: `count`, or `sum` and a path after it. The
-- flag says whether a path is due.
abbrev pub words_counted : Bool → List (Bor (List ℕ)) → ℕ
words_counted is_due [] = 0
words_counted true (path ∷ words) = 2 + words_counted false words
words_counted false (word ∷ words) =
    cond (bytes_eq word.now (codes "count")) (1 + words_counted false words)
    (cond (bytes_eq word.now (codes "sum")) (words_counted true words) 0)

abbrev pub aggregate_words : List (Bor (List ℕ)) → ℕ
aggregate_words words = words_counted false words

-- The text of a path does not begin with its first member.
abbrev pub HasNoMember : List ℕ → Type 0
HasNoMember path = (name : List ℕ) → path ≢ codes "$." ++ name

-- The name of what is at the end of a path: its text after `$.`, or `value` for the row itself.
abbrev pub IsMemberName : List ℕ → List ℕ → Type 0
IsMemberName path name = (path ≡ codes "$." ++ name)
    ⊎ (HasNoMember path × (path ≡ codes "$") × (name ≡ codes "value"))
    ⊎ (HasNoMember path × (path ≢ codes "$") × (name ≡ path))
