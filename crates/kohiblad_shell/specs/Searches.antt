-- Rows in whose texts a pattern is found.
use Rattle.std.specs.Prelude.{Bool, false, not, if◌then◌else◌, ℕ, List, Option, None, Some}
use Rattle.std.specs.List.{list_any}
use Rattle.jsonb_value.specs.Tree.{Tree, text}
use Rattle.jsonb_pattern.specs.Meaning.{Written, is_found}
use Rattle.jsonb_pattern.specs.Views.{written_of}
use Rattle.kohiblad_shell.specs.Asked.{asked}
use Rattle.kohiblad_shell.specs.declared.text_search.TextSearch.{TextSearch}

-- The text of a string; none of every other value.
abbrev pub text_of : Tree → Option (List ℕ)
text_of (text s) = Some s
text_of t = None

-- Whether there is a text, in which the pattern is found.
abbrev pub is_match_in : Written → Option (List ℕ) → Bool
is_match_in pattern (Some s) = is_found pattern s
is_match_in pattern None = false

-- Whether a value is a text in which the pattern is found.
abbrev pub is_match : Written → Tree → Bool
is_match pattern t = is_match_in pattern (text_of t)

-- Whether a path gives a text in which the pattern is found or, of an inverted search, gives none.
abbrev pub is_searched : TextSearch → Tree → Bool
is_searched search t =
    let is_found = list_any (λ u. is_match (written_of search.pattern.now) u)
    (asked search.path.now t).values in
    if search.is_inverted then not is_found else is_found
