-- Accessors after a point. Each definition reads a front of tokens, and gives what it is and the
-- tokens after it; `None` if nothing is written so.
use Rattle.std.specs.Prelude.{ℕ, ◌+◌, ◌-◌, ◌*◌, Bool, ◌&&◌, ◌==◌, nat_le, List, [], ◌∷◌, map}
use Rattle.std.specs.Prelude.{Option, Some, None, bytes_eq, codes, if◌then◌else◌}
use Rattle.std.specs.Char.{is_ascii_digit, to_ascii_lowercase}
use Rattle.jsonb_value.specs.Json.Bind.{◌>>=◌}
use Rattle.jsonb_path.specs.declared.path.Level.{Level}
use Rattle.jsonb_path.specs.declared.path.Level.TheVariants as levels
use Rattle.jsonb_path.specs.declared.path.Method.{Method}
use Rattle.jsonb_path.specs.declared.path.Method.TheVariants as methods
use Rattle.jsonb_path.specs.declared.token.PlacedToken.{PlacedToken}
use Rattle.jsonb_path.specs.Syntax.{Accessor}
use Rattle.jsonb_path.specs.Syntax as syntax
use Rattle.jsonb_path.specs.Token.{Lexeme, lexeme_of, word, quoted, numeric, mark, two_marks}

abbrev pub Front : Type 0 → Type 0
Front A = Option (A × List Lexeme)

-- Tokens without their places.
abbrev pub lexeme_in : PlacedToken → Lexeme
lexeme_in t = lexeme_of t.token

abbrev pub lexemes : List PlacedToken → List Lexeme
lexemes ts = map lexeme_in ts

-- ---- marks and words

-- What is after a mark, if it comes first.
abbrev pub after_mark : ℕ → List Lexeme → Option (List Lexeme)
after_mark c (mark d ∷ ts) = if d == c then Some ts else None
after_mark c _ = None

-- A word of the language, in capital or small letters.
abbrev pub is_word : List ℕ → List ℕ → Bool
is_word name s = bytes_eq (map to_ascii_lowercase s) (map to_ascii_lowercase name)

abbrev pub after_word : List ℕ → List Lexeme → Option (List Lexeme)
after_word name (word s ∷ ts) = if is_word name s then Some ts else None
after_word name _ = None

-- ---- levels

-- A number with one more digit, if it is below 2^31.
abbrev pub with_decimal : ℕ → ℕ → Option ℕ
with_decimal n c = if is_ascii_digit c && nat_le (n * 10 + (c - 48)) 0x7fffffff
    then Some (n * 10 + (c - 48)) else None

abbrev pub level_value : ℕ → List ℕ → Option ℕ
level_value n [] = Some n
level_value n (c ∷ s) = with_decimal n c >>= λ m. level_value m s

abbrev pub number_level : Option ℕ → List Lexeme → Option (Level × List Lexeme)
number_level None ts = None
number_level (Some n) ts = Some (levels.Number n, ts)

-- A level of `.**`: a number below 2^31, or `last`.
abbrev pub level : List Lexeme → Option (Level × List Lexeme)
level (numeric s ∷ ts) = number_level (level_value 0 s) ts
level (word s ∷ ts) = if is_word (codes "last") s then Some (levels.Last, ts) else None
level _ = None

abbrev pub last_from : Level → Option (List Lexeme) → List Lexeme
    → Option (Level × List Lexeme)
last_from a None ts = Some (a, ts)
last_from a (Some rest) ts = level rest

-- `to` and a last level, or the first one again.
abbrev pub last_level : Level → List Lexeme → Option (Level × List Lexeme)
last_level a ts = last_from a (after_word (codes "to") ts) ts

abbrev pub levels_within : List Lexeme → Front Accessor
levels_within ts = level ts >>= λ a. (last_level a.0 a.1 >>= λ b.
    (after_mark 125 b.1 >>= λ rest. Some (syntax.descendants a.0 b.0, rest)))

abbrev pub levels_from : Option (List Lexeme) → List Lexeme → Front Accessor
levels_from None ts = Some (syntax.descendants (levels.Number 0) levels.Last, ts)
levels_from (Some inside) ts = levels_within inside

-- After `.**`: `{a}`, `{a to b}`, or nothing, which is all levels.
unfoldable pub levels_after : List Lexeme → Front Accessor
levels_after ts = levels_from (after_mark 123 ts) ts

-- ---- methods

unfoldable pub method_of : List ℕ → Option Method
method_of s =
    if is_word (codes "type") s then Some methods.Type
    else if is_word (codes "size") s then Some methods.Size
    else if is_word (codes "abs") s then Some methods.Abs
    else if is_word (codes "floor") s then Some methods.Floor
    else if is_word (codes "ceiling") s then Some methods.Ceiling else None

unfoldable pub pair_part : List ℕ → List Lexeme → Front Accessor
pair_part s ts = if bytes_eq s (codes "key") then Some (syntax.method methods.MemberNames, ts)
    else if bytes_eq s (codes "value") then Some (syntax.method methods.MemberValues, ts) else None

abbrev pub unless_called : {A : Type 0} → Option (List Lexeme) → Option A → Option A
unless_called None o = o
unless_called (Some ts) o = None

abbrev pub key_part : List Lexeme → Front Accessor
key_part (quoted s ∷ ts) = pair_part s ts
key_part (word s ∷ ts) = unless_called (after_mark 40 ts) (pair_part s ts)
key_part _ = None

-- After `.keyvalue()`: `.key` or `.value`.
unfoldable pub pairs_of : List Lexeme → Front Accessor
pairs_of ts = after_mark 46 ts >>= key_part

abbrev pub of_method : Option Method → List Lexeme → Front Accessor
of_method None ts = None
of_method (Some m) ts = Some (syntax.method m, ts)

abbrev pub called_by : List ℕ → List Lexeme → Front Accessor
called_by s rest = if is_word (codes "keyvalue") s then pairs_of rest else of_method (method_of s) rest

-- The method of a name, after its opening parenthesis.
unfoldable pub called : List ℕ → List Lexeme → Front Accessor
called s ts = after_mark 41 ts >>= called_by s

abbrev pub named_by : List ℕ → Option (List Lexeme) → List Lexeme → Front Accessor
named_by s None ts = Some (syntax.member s, ts)
named_by s (Some inside) ts = called s inside

-- After a point: a key, `*`, `**` or a method.
abbrev pub dotted : List Lexeme → Front Accessor
dotted (quoted s ∷ ts) = Some (syntax.member s, ts)
dotted (word s ∷ ts) = named_by s (after_mark 40 ts) ts
dotted (mark c ∷ ts) = if c == 42 then Some (syntax.all_members, ts) else None
dotted (two_marks c d ∷ ts) = if c == 42 then levels_after ts else None
dotted _ = None
