-- Rows and their keys, and the first row of each key.
use Rattle.std.specs.Prelude.{◌≡◌, ◌++◌, ℕ, Bool, List, [], ◌∷◌, cond, map, nat_eq}
use Rattle.std.specs.Cmp.Lexicographic.{pointwise}
use Rattle.std.specs.List.{list_any}

-- A row: its key, and its bytes.
pub record Row : Type 0 where
  pub key : List ℕ
  pub line : List ℕ

-- The key and the bytes of a row.
abbrev pub row_key : Row → List ℕ
row_key r = r.key

abbrev pub row_line : Row → List ℕ
row_line r = r.line

-- Whether a key is among these.
abbrev pub has_key : List (List ℕ) → List ℕ → Bool
has_key keys k = list_any (λ l. pointwise nat_eq k l) keys

-- The keys with one more, if it is not among them.
abbrev pub with_key : List (List ℕ) → List ℕ → List (List ℕ)
with_key keys k = cond (has_key keys k) keys (keys ++ k ∷ [])

-- The rows whose key no earlier row has; these come before all.
abbrev pub first_rows : List Row → List Row → List Row
first_rows earlier [] = []
first_rows earlier (r ∷ rows) =
    cond (has_key (map row_key earlier) r.key) (first_rows (earlier ++ r ∷ []) rows)
    (r ∷ first_rows (earlier ++ r ∷ []) rows)

-- The rows whose keys are not among those so far, where the key of each row is added to these.
abbrev pub new_rows : List (List ℕ) → List Row → List Row
new_rows keys [] = []
new_rows keys (r ∷ rows) =
    cond (has_key keys r.key) (new_rows (with_key keys r.key) rows)
    (r ∷ new_rows (with_key keys r.key) rows)

-- From no keys on the new rows are those whose key no earlier row has.
abbrev pub AreFirstByKeys : Type 0
AreFirstByKeys = (rows : List Row) → new_rows [] rows ≡ first_rows [] rows
