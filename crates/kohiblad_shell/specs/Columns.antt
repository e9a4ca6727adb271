-- The columns of a table: the words for them, and the line of their names.
use Rattle.std.specs.Prelude.{◌≡◌, ◌==◌, ◌&&◌, ◌||◌, ◌+◌, ◌⊎◌, ℕ, Bool, true, false}
use Rattle.std.specs.Prelude.{List, [], ◌∷◌, ◌++◌, codes, cond, map}
use Rattle.std.specs.Borrow.{Bor}
use Rattle.std.specs.Int.{is_in_range}
use Rattle.std.specs.List.{after_first, before_first, join_with_byte, list_all}
use Rattle.kohiblad_shell.specs.declared.extract.TypedPath.{TypedPath}
use Rattle.kohiblad_shell.specs.declared.table.Table.{Table}
use Rattle.kohiblad_shell.specs.declared.table_text.TableLayout.{TableLayout}
use Rattle.kohiblad_shell.specs.Removals.{begins_path}
use Rattle.kohiblad_shell.specs.TableTexts.{separator, text_field}

-- Whether a byte is `=`.
abbrev pub is_equals : ℕ → Bool
is_equals byte = byte == 61

-- Whether a name may have a byte: of a letter, a digit, a space, `_`, `-` or `.`, or of a character
-- past ASCII.
abbrev pub is_name_byte : ℕ → Bool
is_name_byte byte = is_in_range 97 122 byte || is_in_range 65 90 byte || is_in_range 48 57 byte
    || byte == 32 || byte == 95 || byte == 45 || byte == 46 || is_in_range 128 255 byte

-- Whether a word is a name, `=` and a path.
abbrev pub is_named : List ℕ → Bool
is_named word = list_all is_name_byte (before_first is_equals word)
    && begins_path (after_first is_equals word)

-- Whether a word stands for a column: it is a path, or has a name before it.
abbrev pub is_column : List ℕ → Bool
is_column word = begins_path word || is_named word

-- How many words, from the first on, stand for columns, each with the name of a type after it.
abbrev pub column_words : List (Bor (List ℕ)) → ℕ
column_words [] = 0
column_words (word ∷ []) = 0
column_words (word ∷ (type ∷ words)) = cond (is_column word.now) (2 + column_words words) 0

-- The name of a path without one: its text, but for `$.` at its start.
abbrev pub IsPlainName : List ℕ → List ℕ → Type 0
IsPlainName path name = (path ≡ codes "$." ++ name)
    ⊎ ((name ≡ path) × ((rest : List ℕ) → path ≡ codes "$." ++ rest → ⊥))

-- The name and the path of a column, by the word for it: what stands before its first `=` and what
-- stands after it, or else the path alone.
abbrev pub IsColumnWord : List ℕ → List ℕ → List ℕ → Type 0
IsColumnWord word name path =
    ((is_named word ≡ true) × (name ≡ before_first is_equals word)
    × (path ≡ after_first is_equals word))
    ⊎ ((is_named word ≡ false) × IsPlainName word name × (path ≡ word))

-- The line of the names of columns.
abbrev pub heading_line : TableLayout → List TypedPath → List ℕ
heading_line layout columns = join_with_byte (separator layout)
    (map (λ column. text_field layout column.name.now) columns) ++ 10 ∷ []

-- What stands before the rows of a table, by whether it has a heading: the line of the names of its
-- columns, or nothing.
abbrev pub heading_if : Bool → TableLayout → List TypedPath → List ℕ
heading_if true layout columns = heading_line layout columns
heading_if false layout columns = []

abbrev pub heading : Table → List ℕ
heading table = heading_if table.has_heading table.layout table.columns.now
