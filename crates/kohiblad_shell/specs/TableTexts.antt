-- Texts as fields of a table.
use Rattle.std.specs.Prelude.{◌==◌, ◌||◌, ℕ, Bool, List, [], ◌∷◌, ◌++◌, Option, None, Some}
use Rattle.std.specs.Prelude.{cond, flat_map, if◌then◌else◌, length}
use Rattle.std.specs.List.{list_any}
use Rattle.kohiblad_shell.specs.declared.table_text.TableLayout.{TableLayout}
use Rattle.kohiblad_shell.specs.declared.table_text.TableLayout.TheVariants.{Csv, Tsv}

-- The byte between two fields: a comma, or a tab.
abbrev pub separator : TableLayout → ℕ
separator Csv = 44
separator Tsv = 9

-- The field where there is no value: it is empty, or `\N`.
abbrev pub absent_field : TableLayout → List ℕ
absent_field Csv = []
absent_field Tsv = 92 ∷ (78 ∷ [])

-- Whether a byte of a text is a comma, a quote or part of the end of a line.
abbrev pub ends_field : ℕ → Bool
ends_field byte = byte == 44 || byte == 34 || byte == 10 || byte == 13

-- Whether a text is written between quotes: if it is empty, or has such a byte.
abbrev pub is_quoted : List ℕ → Bool
is_quoted text = length text == 0 || list_any ends_field text

-- A text with its quotes doubled.
abbrev pub doubled : List ℕ → List ℕ
doubled text = flat_map (λ byte. cond (byte == 34) (34 ∷ (34 ∷ [])) (byte ∷ [])) text

-- A text as a field of CSV.
abbrev pub csv_text : List ℕ → List ℕ
csv_text text = cond (is_quoted text) (34 ∷ (doubled text ++ 34 ∷ [])) text

-- What stands after a backslash for a byte that has an escape: `t` for a tab, `n` for a line feed,
-- `r` for a carriage return, and a backslash for itself.
abbrev pub escape_letter : ℕ → Option ℕ
escape_letter byte =
    if byte == 9 then Some 116
    else if byte == 10 then Some 110
    else if byte == 13 then Some 114
    else if byte == 92 then Some 92
    else None

-- The byte, or its escape.
abbrev pub byte_or_escape : ℕ → Option ℕ → List ℕ
byte_or_escape byte None = byte ∷ []
byte_or_escape byte (Some letter) = 92 ∷ (letter ∷ [])

-- A text as a field between tabs.
abbrev pub tsv_text : List ℕ → List ℕ
tsv_text text = flat_map (λ byte. byte_or_escape byte (escape_letter byte)) text

-- A text as a field.
abbrev pub text_field : TableLayout → List ℕ → List ℕ
text_field Csv text = csv_text text
text_field Tsv text = tsv_text text
