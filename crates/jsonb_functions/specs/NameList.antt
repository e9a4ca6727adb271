-- The names in lists, as PostgreSQL writes arrays of texts.
use Rattle.std.specs.Prelude.{◌≡◌, ℕ, List, [], ◌∷◌, take, drop, codes, Bool, true, false, ◌==◌}
use Rattle.std.specs.Prelude.{if◌then◌else◌, not, ◌&&◌, ◌||◌, nat_lt, Option, None, Some}
use Rattle.std.specs.List.{prefix_len}
use Rattle.std.specs.Str.{str_eq_ignore_ascii_case}
use Rattle.jsonb_functions.specs.Names.{with_byte, AreNames}

-- The name that is written up to a quote, where `\` takes the next byte as it is, and the bytes
-- after the quote. The first argument is whether a `\` is right before the bytes.
abbrev pub quoted : Bool → List ℕ → Option (List ℕ × List ℕ)
quoted true [] = None
quoted true (c ∷ bytes) = with_byte c (quoted false bytes)
quoted false [] = None
quoted false (c ∷ bytes) =
    if c == 34 then Some ([], bytes)
    else if c == 92 then quoted true bytes
    else with_byte c (quoted false bytes)

-- Space, tab, line feed, vertical tab, form feed or carriage return.
abbrev pub is_white_space : ℕ → Bool
is_white_space c = (c == 32) || (nat_lt 8 c && nat_lt c 14)

-- `{`, `}`, `,`, `"` or `\`.
abbrev pub is_list_mark : ℕ → Bool
is_list_mark c = (c == 123) || (c == 125) || (c == 44) || (c == 34) || (c == 92)

-- The byte may be in a name that is written without quotes.
abbrev pub is_plain_byte : ℕ → Bool
is_plain_byte c = not (is_white_space c) && not (is_list_mark c)

-- `NULL`, in any case.
abbrev pub is_null : List ℕ → Bool
is_null name = str_eq_ignore_ascii_case name (codes "NULL")

-- A name without quotes, if it is neither empty nor `NULL`, and the bytes after it.
abbrev pub plain_name : List ℕ → Option (List ℕ × List ℕ)
plain_name bytes =
    let n = prefix_len is_plain_byte bytes in
    if (n == 0) || is_null (take n bytes) then None else Some (take n bytes, drop n bytes)

-- The name that is written first, with or without quotes, and the bytes after it.
abbrev pub list_name : List ℕ → Option (List ℕ × List ℕ)
list_name [] = None
list_name (c ∷ bytes) = if c == 34 then quoted false bytes else plain_name (c ∷ bytes)

-- The name that is written after this mark, and the bytes after it.
abbrev pub name_after : ℕ → List ℕ → Option (List ℕ × List ℕ)
name_after mark [] = None
name_after mark (c ∷ bytes) = if c == mark then list_name bytes else None

-- The byte is taken as it is between quotes.
abbrev pub is_unquoted : ℕ → Bool
is_unquoted c = not (c == 34) && not (c == 92)

-- The text is the list of these names: `{`, the names with a `,` between them, and `}`.
abbrev pub NameList : List ℕ → List (List ℕ) → Type 0
NameList text [] = text ≡ codes "{}"
NameList text (name ∷ names) =
    (rest : List ℕ)
    × (name_after 123 text ≡ Some (name, rest)) × AreNames (name_after 44) (codes "}") rest names
