-- Tokens, by the next one: what is left after one is shorter.
use Rattle.std.proofs.Common.{◌≡◌, ℕ, suc, ◌-◌, ◌<◌, ◌≤◌, sym, ap, subst, ◌∙◌, arith, Bool, true}
use Rattle.std.proofs.Common.{false, List, [], ◌∷◌, length, Option, Some, None, Result, Ok, Err}
use Rattle.std.specs.Prelude.{if◌then◌else◌, ◌==◌, ◌&&◌, not, encode_utf8}
use Rattle.jsonb_value.specs.Json.Characters.{quote}
use Rattle.jsonb_path.specs.declared.token.Ending.{Ending}
use Rattle.jsonb_path.specs.declared.token.Ending.TheVariants.{Quote, Word}
use Rattle.jsonb_path.specs.declared.token.PathFault.{PathFault}
use Rattle.jsonb_path.specs.declared.token.Reason.{Reason}
use Rattle.jsonb_path.specs.declared.token.cursor.Class.TheVariants.{Name}
use Rattle.jsonb_path.specs.Character.{begins, byte_len, is_in_name, is_mark, is_white, run}
use Rattle.jsonb_path.specs.declared.token.Stop.{Stop}
use Rattle.jsonb_path.specs.Fault.{◌>>>◌, IsRefused, Stops, error_at}
use Rattle.jsonb_path.specs.Numeral.{begins_numeral, numeral_at}
use Rattle.jsonb_path.specs.Token.{after_comment, after_first, and_token, character, content_of}
use Rattle.jsonb_path.specs.Token.{ended, goes_on_as_word, is_pair, Lexed, lexed, Lexeme, mark}
use Rattle.jsonb_path.specs.Token.{mark_at, named, number_at, numeric, one_more, Placed, quoted}
use Rattle.jsonb_path.specs.Token.{slash_at, text_at, Tokens, tokens_after, tokens_turn, two_marks}
use Rattle.jsonb_path.specs.Token.{variable_at, with_token, word, word_at}
use Rattle.jsonb_path.specs.Turns.{Turn, ends_with, goes_on, after_turn}
use Rattle.jsonb_path.proofs.TurnLaws.{turn}
use Rattle.jsonb_path.proofs.LeftLaws.{by_test, run_left, numeral_left}
use Rattle.jsonb_path.proofs.NameLaws.{Rest, rest_if, rest_in, rest_then, character_rest}
use Rattle.jsonb_path.proofs.NameLaws.{content_rest}
use Rattle.jsonb_path.specs.declared.token.Reason.TheVariants as reasons
use Rattle.jsonb_path.specs.declared.token.Stop.TheVariants as stops

abbrev Shorter : List ℕ → Option (List ℕ) → Type 0
Shorter s None = Unit {0}
Shorter s (Some t) = length t ≤ length s

comment_if : (b : Bool) (c : ℕ) (s : List ℕ) (o : Option (List ℕ)) → Shorter s o
    → Shorter (c ∷ s) (if b then Some s else o)
comment_if true c s o h = omega arith
comment_if false c s None h = tt
comment_if false c s (Some t) h = omega arith

comment_left : (starred : Bool) (s : List ℕ) → Shorter s (after_comment starred s)
comment_left starred [] = tt
comment_left starred (c ∷ s) = comment_if (starred && (c == 47)) c s
    (after_comment (c == 42) s) (comment_left (c == 42) s)

first_left : (s : List ℕ) → length (after_first s) ≤ length s
first_left [] = omega arith
first_left (c ∷ s) = omega arith

quoted_rest : (ending : Ending) (front s : List ℕ) (make : List ℕ → Option Lexeme)
    → Rest s (content_of ending front s >>> λ x. Ok (make x.0, after_first x.1))
quoted_rest ending front s make =
    rest_then s (content_of ending front s) (λ x. Ok (make x.0, after_first x.1))
    (content_rest ending front s) (λ x. first_left x.1)

text_rest : (s : List ℕ) → Rest s (text_at s)
unfolding text_at
text_rest s = quoted_rest Quote [] s (λ b. Some (quoted b))

abbrev bare_variable : ℕ → List ℕ → Result Lexed Reason
bare_variable c s = if is_in_name c
    then Ok (Some (named (run Name [] (c ∷ s)).0), (run Name [] (c ∷ s)).1)
    else Ok (Some (mark 36), c ∷ s)

variable_rest : (s : List ℕ) → Rest s (variable_at s)
unfolding variable_at
variable_rest [] = omega arith
variable_rest (c ∷ s) =
    rest_if (c ∷ s) (c == quote)
    (content_of Quote [] s >>> λ x. Ok (Some (named x.0), after_first x.1)) (bare_variable c s)
    (rest_in s (c ∷ s) (content_of Quote [] s >>> λ x. Ok (Some (named x.0), after_first x.1))
    (omega arith) (quoted_rest Quote [] s (λ b. Some (named b))))
    (rest_if (c ∷ s) (is_in_name c)
    (Ok (Some (named (run Name [] (c ∷ s)).0), (run Name [] (c ∷ s)).1))
    (Ok (Some (mark 36), c ∷ s)) (run_left Name [] (c ∷ s)) (omega arith))

ended_rest : (s : List ℕ) (o : Option (List ℕ)) → Shorter s o → Rest s (ended o)
ended_rest s None h = tt
ended_rest s (Some x) h = h

slash_rest : (s : List ℕ) → Rest s (slash_at s)
unfolding slash_at
slash_rest [] = omega arith
slash_rest (c ∷ s) = rest_if (c ∷ s) (c == 42) (ended (after_comment false s))
    (Ok (Some (mark 47), c ∷ s))
    (rest_in s (c ∷ s) (ended (after_comment false s)) (omega arith)
    (ended_rest s (after_comment false s) (comment_left false s))) (omega arith)

word_rest : (c : ℕ) (s : List ℕ) → Rest s (word_at (c ∷ s))
unfolding word_at
word_rest c s = rest_then s (character (c ∷ s))
    (λ x. content_of Word (encode_utf8 x.0) x.1 >>> λ y. Ok (Some (word y.0), y.1))
    (character_rest c s)
    (λ x. rest_then x.1 (content_of Word (encode_utf8 x.0) x.1) (λ y. Ok (Some (word y.0), y.1))
    (content_rest Word (encode_utf8 x.0) x.1) (λ y. omega arith))

number_rest : (c : ℕ) (s : List ℕ) → Rest s (number_at (c ∷ s))
unfolding number_at
number_rest c s = rest_if s (not (begins Name (numeral_at [] (c ∷ s)).1))
    (Ok (Some (numeric (numeral_at [] (c ∷ s)).0), (numeral_at [] (c ∷ s)).1))
    (if goes_on_as_word (c ∷ s) (numeral_at [] (c ∷ s)).1 then word_at (c ∷ s)
    else Err reasons.InvalidNumber) (numeral_left c s)
    (rest_if s (goes_on_as_word (c ∷ s) (numeral_at [] (c ∷ s)).1) (word_at (c ∷ s))
    (Err reasons.InvalidNumber) (word_rest c s) tt)

mark_left : (c : ℕ) (s : List ℕ) → length (mark_at c s).1 ≤ length s
unfolding mark_at
mark_left c [] = omega arith
mark_left c (d ∷ s) = by_test (is_pair c d) (Some (two_marks c d), s) (Some (mark c), d ∷ s)
    (length (d ∷ s)) (omega arith) (omega arith)

abbrev or_word : ℕ → List ℕ → Result Lexed Reason
or_word c s = if is_mark c then Ok (mark_at c s) else word_at (c ∷ s)

abbrev or_mark : ℕ → List ℕ → Result Lexed Reason
or_mark c s = if begins_numeral (c ∷ s) then number_at (c ∷ s) else or_word c s

abbrev or_number : ℕ → List ℕ → Result Lexed Reason
or_number c s = if is_white c then Ok (None, s) else or_mark c s

abbrev or_white : ℕ → List ℕ → Result Lexed Reason
or_white c s = if c == 47 then slash_at s else or_number c s

abbrev or_slash : ℕ → List ℕ → Result Lexed Reason
or_slash c s = if c == 36 then variable_at s else or_white c s

word_or : (c : ℕ) (s : List ℕ) → Rest s (or_word c s)
word_or c s =
    rest_if s (is_mark c) (Ok (mark_at c s)) (word_at (c ∷ s)) (mark_left c s) (word_rest c s)

mark_or : (c : ℕ) (s : List ℕ) → Rest s (or_mark c s)
mark_or c s = rest_if s (begins_numeral (c ∷ s)) (number_at (c ∷ s)) (or_word c s)
    (number_rest c s) (word_or c s)

number_or : (c : ℕ) (s : List ℕ) → Rest s (or_number c s)
number_or c s = rest_if s (is_white c) (Ok (None, s)) (or_mark c s) (omega arith) (mark_or c s)

white_or : (c : ℕ) (s : List ℕ) → Rest s (or_white c s)
white_or c s =
    rest_if s (c == 47) (slash_at s) (or_number c s) (slash_rest s) (number_or c s)

slash_or : (c : ℕ) (s : List ℕ) → Rest s (or_slash c s)
slash_or c s =
    rest_if s (c == 36) (variable_at s) (or_white c s) (variable_rest s) (white_or c s)

lexed_rest : (c : ℕ) (s : List ℕ) → Rest s (lexed (c ∷ s))
lexed_rest c s =
    rest_if s (c == quote) (text_at s) (or_slash c s) (text_rest s) (slash_or c s)

pub lexed_shorter : (s : List ℕ) (c : ℕ) (more : List ℕ) (p : Lexed) → s ≡ c ∷ more
    → lexed s ≡ Ok p → length p.1 < length s
lexed_shorter s c more p e f =
    let read : lexed (c ∷ more) ≡ Ok p = ap lexed (sym e) ∙ f in
    let rest : length p.1 ≤ length more =
    subst (λ (r : Result Lexed Reason). Rest more r) read (lexed_rest c more) in
    let size : length s ≡ suc (length more) = ap length e in
    omega arith

abbrev rest_of : Turn Tokens (Result (List Placed) PathFault) → List ℕ
rest_of (ends_with y) = []
rest_of (goes_on x) = x.1

token_past : (at : ℕ) (front : List Placed) (s : List ℕ) (r : Result Lexed Reason) (y : Tokens)
    → Rest s r → and_token at front r ≡ goes_on y → length y.1 ≤ length s
token_past at front s (Err e) y h same = absurd (let no : ⊥ = cc in no)
token_past at front s (Ok x) y h same =
    let rest : x.1 ≡ y.1 = ap rest_of same in
    let k : length x.1 ≡ length y.1 = ap length rest in
    omega arith

one_smaller : (all : ℕ) (front : List Placed) (s : List ℕ) (y : Tokens)
    → one_more all front s ≡ goes_on y → length y.1 < length s
one_smaller all front [] y same = absurd (let no : ⊥ = cc in no)
one_smaller all front (c ∷ s) y same =
    let k = token_past (all - byte_len (c ∷ s)) front s (lexed (c ∷ s)) y (lexed_rest c s) same in
    omega arith

next_tokens : (all : ℕ) (front : List Placed) (s : List ℕ) → tokens_after all front s
    ≡ after_turn (λ y. tokens_after all y.0 y.1) (tokens_turn all (front, s))
unfolding tokens_after
next_tokens all front s = turn (tokens_turn all)
    (Err (record { at = all; reason = reasons.UnclosedText })) (λ x. length x.1)
    (λ x y e. one_smaller all x.0 x.1 y e) (front, s)

pub tokens_end : (all : ℕ) (front : List Placed) (s : List ℕ) → s ≡ []
    → tokens_after all front s ≡ Ok front
tokens_end all front s e = ap (tokens_after all front) e ∙ next_tokens all front []

tokens_go : (all : ℕ) (front : List Placed) (s : List ℕ) (c : ℕ) (more : List ℕ)
    (r : Result Lexed Reason) → s ≡ c ∷ more → lexed s ≡ r
    → tokens_after all front s ≡ after_turn (λ (y : Tokens). tokens_after all y.0 y.1)
    (and_token (all - byte_len s) front r)
tokens_go all front s c more r e f =
    next_tokens all front s
    ∙ ap (after_turn (λ (y : Tokens). tokens_after all y.0 y.1))
    (ap (one_more all front) e
    ∙ ap (λ (t : List ℕ). and_token (all - byte_len t) front (lexed t)) (sym e)
    ∙ ap (and_token (all - byte_len s) front) f)

pub tokens_fail : (all : ℕ) (front : List Placed) (s : List ℕ) (c : ℕ) (more : List ℕ)
    (r : Reason) → s ≡ c ∷ more → lexed s ≡ Err r
    → tokens_after all front s ≡ Err (record { at = all - byte_len s; reason = r })
tokens_fail all front s c more r e f = tokens_go all front s c more (Err r) e f

pub tokens_stop : (e : Stop) (all : ℕ) (front : List Placed) (s : List ℕ) (c : ℕ) (more : List ℕ)
    (total : Result (List Placed) PathFault) → s ≡ c ∷ more → Stops e (lexed s)
    → tokens_after all front s ≡ total → IsRefused (error_at (all - byte_len s) e) total
tokens_stop stops.OutOfMemory all front s c more total e stop same = tt
tokens_stop (stops.Refused r) all front s c more total e stop same =
    sym same ∙ tokens_fail all front s c more r e stop

pub tokens_more : (all : ℕ) (front : List Placed) (s : List ℕ) (c : ℕ) (more : List ℕ)
    (l : Option Lexeme) (rest : List ℕ) → s ≡ c ∷ more → lexed s ≡ Ok (l, rest)
    → tokens_after all front s
    ≡ tokens_after all (with_token (all - byte_len s) front l) rest
tokens_more all front s c more l rest e f = tokens_go all front s c more (Ok (l, rest)) e f

-- one more token, or none, with its place
pub tokens_go_on : (all at : ℕ) (front new : List Placed) (s : List ℕ) (c : ℕ) (more : List ℕ)
    (l : Option Lexeme) (rest : List ℕ) (total : Result (List Placed) PathFault) → s ≡ c ∷ more
    → lexed s ≡ Ok (l, rest) → at ≡ all - byte_len s → new ≡ with_token at front l
    → tokens_after all front s ≡ total → tokens_after all new rest ≡ total
tokens_go_on all at front new s c more l rest total e f place same so_far =
    ap (λ (ps : List Placed). tokens_after all ps rest) same
    ∙ ap (λ (n : ℕ). tokens_after all (with_token n front l) rest) place
    ∙ sym (tokens_more all front s c more l rest e f) ∙ so_far

pub ruleset token_laws = (tokens_end, tokens_more, tokens_stop, lexed_shorter)
