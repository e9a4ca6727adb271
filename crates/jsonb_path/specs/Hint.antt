-- How what other languages of paths write is written here.
use Rattle.std.specs.Prelude.{ℕ, ◌-◌, Bool, false, not, ◌&&◌, ◌==◌, List, [], ◌∷◌, length}
use Rattle.std.specs.Prelude.{Option, Some, None, chars, codes, encode_utf8, if◌then◌else◌}
use Rattle.std.specs.Char.{to_ascii_lowercase}
use Rattle.jsonb_path.specs.declared.hint.Hint.{Hint}
use Rattle.jsonb_path.specs.declared.hint.Hint.TheVariants as hints
use Rattle.jsonb_path.specs.declared.read.scan.Expected.{Expected}
use Rattle.jsonb_path.specs.declared.read.scan.Expected.TheVariants as expected
use Rattle.jsonb_path.specs.declared.token.Found.{Found}
use Rattle.jsonb_path.specs.declared.token.Found.TheVariants as found
use Rattle.jsonb_path.specs.declared.token.PathFault.{PathFault}
use Rattle.jsonb_path.specs.declared.token.Reason.{Reason}
use Rattle.jsonb_path.specs.declared.token.Reason.TheVariants as reasons
use Rattle.jsonb_path.specs.declared.token.cursor.Class.TheVariants.{Name}
use Rattle.jsonb_path.specs.Character.{begins}

-- The characters from this byte on.
abbrev pub from_byte : ℕ → List ℕ → List ℕ
from_byte at [] = []
from_byte at (c ∷ s) = if at == 0 then c ∷ s else from_byte (at - length (encode_utf8 c)) s

abbrev pub begins_with : ℕ → List ℕ → Bool
begins_with c [] = false
begins_with c (d ∷ s) = d == c

-- The characters begin with this word, in capital or small letters, and it ends there.
unfoldable pub begins_word : List ℕ → List ℕ → Bool
begins_word [] s = not (begins Name s)
begins_word (w ∷ word) [] = false
begins_word (w ∷ word) (c ∷ s) = (to_ascii_lowercase c == w) && begins_word word s

-- Of a word that cannot stand there: one in single quotes, `and` or `or`.
abbrev pub word_hint : List ℕ → Option Hint
word_hint s =
    if begins_with 39 s then Some hints.Quotes
    else if begins_word (chars (codes "and")) s then Some hints.And
    else if begins_word (chars (codes "or")) s then Some hints.Or else None

-- Of a mark: `.` or `[` without a `$`, `..`, and a filter within brackets or without parentheses.
abbrev pub mark_where : Expected → ℕ → Option Hint
mark_where expected.Value c =
    if c == 46 then Some hints.Root
    else if c == 91 then Some hints.Root
    else if c == 63 then Some hints.Filter else None
mark_where expected.Key c = if c == 46 then Some hints.Descendants else None
mark_where (expected.Mark m) c = if c == 64 then Some hints.Filter else None
mark_where what c = None

-- `=` and `:` have one meaning wherever they are found.
abbrev pub mark_hint : Expected → ℕ → Option Hint
mark_hint what c =
    if c == 61 then Some hints.Equal
    else if c == 58 then Some hints.Range else mark_where what c

abbrev pub found_hint : Expected → Found → List ℕ → Option Hint
found_hint what found.Word s = word_hint s
found_hint what (found.Mark c) s = mark_hint what c
found_hint what f s = None

-- Where a test is wanted, it may ask for a value.
abbrev pub expected_hint : Expected → Found → List ℕ → Option Hint
expected_hint expected.TestBefore f s = Some hints.Exists
expected_hint what f s = found_hint what f s

abbrev pub reason_hint : Reason → List ℕ → Option Hint
reason_hint (reasons.Expected what f) s = expected_hint what f s
reason_hint r s = None

-- The hint of a text's fault, by what stands at its byte.
abbrev pub hint_of : PathFault → List ℕ → Option Hint
hint_of fault s = reason_hint fault.reason (from_byte fault.at s)
