-- What a chain begins with, but for parentheses: `$`, `@`, `last`, a literal or a variable.
use Rattle.std.specs.Prelude.{ℕ, true, false, not, ◌&&◌, ◌==◌, List, [], ◌∷◌, ◌++◌, Option, Some, None}
use Rattle.std.specs.Prelude.{bytes_eq, chars, codes, encode_utf8, if◌then◌else◌}
use Rattle.jsonb_value.specs.declared.number.Number.{Number}
use Rattle.jsonb_value.specs.declared.parser.number.Exponents.TheVariants.{Allowed}
use Rattle.jsonb_value.specs.Json.Bind.{◌>>=◌}
use Rattle.jsonb_value.specs.Json.Characters.{point}
use Rattle.jsonb_value.specs.Reader.Reading.{read_document}
use Rattle.jsonb_value.specs.Tree.{Tree}
use Rattle.jsonb_value.specs.Tree as values
use Rattle.jsonb_path.specs.declared.read.literal.Scope.{Scope}
use Rattle.jsonb_path.specs.declared.token.cursor.Class.TheVariants.{Digit}
use Rattle.jsonb_path.specs.Character.{begins}
use Rattle.jsonb_path.specs.Dotted.{Front, is_word}
use Rattle.jsonb_path.specs.Syntax.{Primary}
use Rattle.jsonb_path.specs.Syntax as syntax
use Rattle.jsonb_path.specs.Token.{Lexeme, word, quoted, named, numeric, mark}

-- ---- numbers

-- A zero, if the characters begin with a point.
abbrev pub zero_before : List ℕ → List ℕ
zero_before [] = []
zero_before (c ∷ s) = if c == point then codes "0" else []

-- The bytes so far and a character, unless that is a point that no digit follows.
abbrev pub with_written : List ℕ → ℕ → List ℕ → List ℕ
with_written front c s =
    if (c == point) && not (begins Digit s) then front else front ++ encode_utf8 c

abbrev pub written_on : List ℕ → List ℕ → List ℕ
written_on front [] = front
written_on front (c ∷ s) = written_on (with_written front c s) s

-- A number as JSON writes it, with digits on both sides of its point.
abbrev pub as_json : List ℕ → List ℕ
as_json s = written_on (zero_before s) s

abbrev pub number_in_tree : Option Tree → Option Number
number_in_tree (Some (values.number x)) = Some x
number_in_tree _ = None

-- What the bytes of a number mean, if 128 bits and a scale of 255 hold it: as in JSON.
unfoldable pub numeral_value : List ℕ → Option Number
numeral_value s = number_in_tree (read_document Allowed (chars (as_json (chars s))))

-- ---- primaries

-- `@` may stand in filters, `last` in subscripts, and each in what stands within.
abbrev pub within_filter : Scope → Scope
within_filter scope = record { in_filter = true; in_subscript = scope.in_subscript }

abbrev pub within_subscript : Scope → Scope
within_subscript scope = record { in_filter = scope.in_filter; in_subscript = true }

-- A literal alone.
abbrev pub constant : Tree → List Lexeme → Front Primary
constant t ts = Some (syntax.literal t, ts)

abbrev pub numbered : List Lexeme → Number → Front Primary
numbered ts x = constant (values.number x) ts

-- `null`, `true` and `false` in small letters, and `last` in any, if it may stand there.
unfoldable pub worded : Scope → List ℕ → List Lexeme → Front Primary
worded scope s ts =
    if bytes_eq s (codes "null") then constant values.null ts
    else if bytes_eq s (codes "true") then constant (values.boolean true) ts
    else if bytes_eq s (codes "false") then constant (values.boolean false) ts
    else if scope.in_subscript && is_word (codes "last") s then Some (syntax.last, ts) else None

-- `$`, and `@`, if it may stand there.
abbrev pub marked : Scope → ℕ → List Lexeme → Front Primary
marked scope c ts =
    if c == 36 then Some (syntax.root, ts)
    else if scope.in_filter && (c == 64) then Some (syntax.current, ts) else None

abbrev pub primary_at : Scope → List Lexeme → Front Primary
primary_at scope (quoted s ∷ ts) = constant (values.text s) ts
primary_at scope (named s ∷ ts) = Some (syntax.variable s, ts)
primary_at scope (numeric s ∷ ts) = numeral_value s >>= numbered ts
primary_at scope (word s ∷ ts) = worded scope s ts
primary_at scope (mark c ∷ ts) = marked scope c ts
primary_at scope _ = None

-- What stands after `starts with`: a text or a variable.
abbrev pub prefix_at : List Lexeme → Front Primary
prefix_at (quoted s ∷ ts) = constant (values.text s) ts
prefix_at (named s ∷ ts) = Some (syntax.variable s, ts)
prefix_at _ = None
