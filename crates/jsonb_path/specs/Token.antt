-- The tokens of a path's text.
use Rattle.std.specs.Prelude.{ℕ, suc, ◌-◌, Bool, true, false, not, ◌&&◌, ◌||◌, ◌==◌}
use Rattle.std.specs.Prelude.{nat_le, if◌then◌else◌, List, [], ◌∷◌, ◌++◌, length, encode_utf8}
use Rattle.std.specs.Prelude.{Option, Some, None, Result, Ok, Err, string_bytes}
use Rattle.jsonb_value.specs.Json.Characters.{quote, backslash}
use Rattle.jsonb_path.specs.declared.token.Ending.{Ending}
use Rattle.jsonb_path.specs.declared.token.Ending.TheVariants.{Quote, Word}
use Rattle.jsonb_path.specs.declared.token.PathFault.{PathFault}
use Rattle.jsonb_path.specs.declared.token.PlacedToken.{PlacedToken}
use Rattle.jsonb_path.specs.declared.token.Reason.{Reason}
use Rattle.jsonb_path.specs.declared.token.Reason.TheVariants as reasons
use Rattle.jsonb_path.specs.declared.token.Token.{Token}
use Rattle.jsonb_path.specs.declared.token.Token.TheVariants as tokens
use Rattle.jsonb_path.specs.declared.token.cursor.Class.TheVariants.{Name}
use Rattle.jsonb_path.specs.Character.{begins, byte_len, is_in_name, is_mark, is_white, run}
use Rattle.jsonb_path.specs.Escape.{escape_at}
use Rattle.jsonb_path.specs.Fault.{◌>>>◌}
use Rattle.jsonb_path.specs.Numeral.{begins_numeral, numeral_at}
use Rattle.jsonb_path.specs.Turns.{Turn, ends_with, goes_on, turns}

-- A token without where it is stored: the bytes of a word, of a text in quotes, of a variable's
-- name or of a number as it is written, or one mark or two.
pub data Lexeme : Type 0 where
  word : List ℕ → Lexeme
  quoted : List ℕ → Lexeme
  named : List ℕ → Lexeme
  numeric : List ℕ → Lexeme
  mark : ℕ → Lexeme
  two_marks : ℕ → ℕ → Lexeme

abbrev pub lexeme_of : Token → Lexeme
lexeme_of (tokens.Word s) = word (string_bytes s)
lexeme_of (tokens.Text s) = quoted (string_bytes s)
lexeme_of (tokens.Variable s) = named (string_bytes s)
lexeme_of (tokens.Number s) = numeric (string_bytes s)
lexeme_of (tokens.Mark c) = mark c
lexeme_of (tokens.Pair c d) = two_marks c d

-- A token, and at which byte it begins.
pub record Placed : Type 0 where
  pub at : ℕ
  pub lexeme : Lexeme

abbrev pub placed_of : PlacedToken → Placed
placed_of t = record { at = t.at; lexeme = lexeme_of t.token }

-- ---- names

-- A name in quotes ends before a quote, a word before what cannot stand in it.
abbrev pub is_ended : Ending → List ℕ → Bool
is_ended Quote [] = false
is_ended Quote (c ∷ s) = c == quote
is_ended Word [] = true
is_ended Word (c ∷ s) = not (c == backslash) && not (is_in_name c)

abbrev pub escaped : Option (ℕ × List ℕ) → Result (ℕ × List ℕ) Reason
escaped None = Err reasons.InvalidEscape
escaped (Some x) = Ok x

-- A character of a name: itself, or an escape after a backslash.
abbrev pub character : List ℕ → Result (ℕ × List ℕ) Reason
character [] = Err reasons.UnclosedText
character (c ∷ s) = if c == backslash then escaped (escape_at s) else Ok (c, s)

-- The bytes of a name so far, and what is after them.
abbrev pub Named : Type 0
Named = List ℕ × List ℕ

abbrev pub and_character : List ℕ → Result (ℕ × List ℕ) Reason → Turn Named (Result Named Reason)
and_character front (Err e) = ends_with (Err e)
and_character front (Ok x) = goes_on (front ++ encode_utf8 x.0, x.1)

-- One more character, up to the end of the name.
abbrev pub content_turn : Ending → Named → Turn Named (Result Named Reason)
content_turn ending x =
    if is_ended ending x.1 then ends_with (Ok x) else and_character x.0 (character x.1)

-- All characters up to the end of the name, after these bytes, and what is after them.
unfoldable pub content_of : Ending → List ℕ → List ℕ → Result Named Reason
content_of ending front s =
    turns (content_turn ending) (Err reasons.UnclosedText) (suc (length s)) (front, s)

-- ---- tokens

-- What is after a comment, of which a star was the last character or was not.
abbrev pub after_comment : Bool → List ℕ → Option (List ℕ)
after_comment starred [] = None
after_comment starred (c ∷ s) =
    if starred && (c == 47) then Some s else after_comment (c == 42) s

-- A token or none, and what is after it.
abbrev pub Lexed : Type 0
Lexed = Option Lexeme × List ℕ

abbrev pub after_first : List ℕ → List ℕ
after_first [] = []
after_first (c ∷ s) = s

-- After a quote: a text in quotes.
unfoldable pub text_at : List ℕ → Result Lexed Reason
text_at s = content_of Quote [] s >>> λ x. Ok (Some (quoted x.0), after_first x.1)

-- After a `$`: the name of a variable, in quotes or not, or nothing.
unfoldable pub variable_at : List ℕ → Result Lexed Reason
variable_at [] = Ok (Some (mark 36), [])
variable_at (c ∷ s) =
    if c == quote then (content_of Quote [] s >>> λ x. Ok (Some (named x.0), after_first x.1))
    else if is_in_name c
    then Ok (Some (named (run Name [] (c ∷ s)).0), (run Name [] (c ∷ s)).1)
    else Ok (Some (mark 36), c ∷ s)

abbrev pub ended : Option (List ℕ) → Result Lexed Reason
ended None = Err reasons.UnclosedComment
ended (Some s) = Ok (None, s)

-- After a `/`: a comment, if a `*` follows.
unfoldable pub slash_at : List ℕ → Result Lexed Reason
slash_at [] = Ok (Some (mark 47), [])
slash_at (c ∷ s) = if c == 42 then ended (after_comment false s) else Ok (Some (mark 47), c ∷ s)

-- A word, whose first character is not tested.
unfoldable pub word_at : List ℕ → Result Lexed Reason
word_at s = character s >>> λ c.
    (content_of Word (encode_utf8 c.0) c.1 >>> λ x. Ok (Some (word x.0), x.1))

-- Digits go on as a word: of the two the longest is read, by more than a byte.
abbrev pub goes_on_as_word : List ℕ → List ℕ → Bool
goes_on_as_word s rest = nat_le 2 (byte_len rest - byte_len (run Name [] s).1)

-- A number, which nothing of a word follows.
abbrev pub number_then : List ℕ → List ℕ × List ℕ → Result Lexed Reason
number_then s x =
    if not (begins Name x.1) then Ok (Some (numeric x.0), x.1)
    else if goes_on_as_word s x.1 then word_at s else Err reasons.InvalidNumber

unfoldable pub number_at : List ℕ → Result Lexed Reason
number_at s = number_then s (numeral_at [] s)

-- `&&`, `||`, `**`, `==`, `!=`, `<=`, `>=` and `<>` are one operator.
abbrev pub is_pair : ℕ → ℕ → Bool
is_pair c d =
    if (d == 38) || (d == 124) || (d == 42) then c == d
    else if d == 61 then (c == 61) || (c == 33) || (c == 60) || (c == 62)
    else if d == 62 then c == 60 else false

unfoldable pub mark_at : ℕ → List ℕ → Lexed
mark_at c [] = (Some (mark c), [])
mark_at c (d ∷ s) = if is_pair c d then (Some (two_marks c d), s) else (Some (mark c), d ∷ s)

-- White space, a comment or a token: the longest one.
abbrev pub lexed : List ℕ → Result Lexed Reason
lexed [] = Ok (None, [])
lexed (c ∷ s) =
    if c == quote then text_at s else if c == 36 then variable_at s
    else if c == 47 then slash_at s else if is_white c then Ok (None, s)
    else if begins_numeral (c ∷ s) then number_at (c ∷ s)
    else if is_mark c then Ok (mark_at c s) else word_at (c ∷ s)

-- The tokens so far, and what is after them.
abbrev pub Tokens : Type 0
Tokens = List Placed × List ℕ

abbrev pub with_token : ℕ → List Placed → Option Lexeme → List Placed
with_token at front None = front
with_token at front (Some l) = front ++ (record { at = at; lexeme = l } ∷ [])

abbrev pub and_token : ℕ → List Placed → Result Lexed Reason
    → Turn Tokens (Result (List Placed) PathFault)
and_token at front (Err e) = ends_with (Err (record { at = at; reason = e }))
and_token at front (Ok x) = goes_on (with_token at front x.0, x.1)

-- One more piece of a text of so many bytes.
abbrev pub one_more : ℕ → List Placed → List ℕ → Turn Tokens (Result (List Placed) PathFault)
one_more all front [] = ends_with (Ok front)
one_more all front (c ∷ s) = and_token (all - byte_len (c ∷ s)) front (lexed (c ∷ s))

abbrev pub tokens_turn : ℕ → Tokens → Turn Tokens (Result (List Placed) PathFault)
tokens_turn all x = one_more all x.0 x.1

-- The tokens of a text, or its first fault.
unfoldable pub tokens_after : ℕ → List Placed → List ℕ → Result (List Placed) PathFault
tokens_after all front s = turns (tokens_turn all)
    (Err (record { at = all; reason = reasons.UnclosedText })) (suc (length s)) (front, s)

abbrev pub tokens_of : List ℕ → Result (List Placed) PathFault
tokens_of s = tokens_after (byte_len s) [] s
