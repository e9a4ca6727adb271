-- Names, by their next character: what is left after one is shorter.
use Rattle.std.proofs.Common.{◌≡◌, ℕ, suc, ◌<◌, ◌≤◌, sym, ap, subst, ◌∙◌, arith, Bool, true, false}
use Rattle.std.proofs.Common.{List, [], ◌∷◌, ◌++◌, length, Option, Some, None, Result, Ok, Err}
use Rattle.std.specs.Prelude.{if◌then◌else◌, ◌==◌, not, encode_utf8}
use Rattle.jsonb_value.specs.Json.Characters.{backslash}
use Rattle.jsonb_path.specs.declared.token.Ending.{Ending}
use Rattle.jsonb_path.specs.declared.token.Reason.{Reason}
use Rattle.jsonb_path.specs.Escape.{escape_at}
use Rattle.jsonb_path.specs.declared.token.Stop.{Stop}
use Rattle.jsonb_path.specs.Fault.{◌>>>◌, Stops}
use Rattle.jsonb_path.specs.Token.{and_character, character, content_of, content_turn, escaped}
use Rattle.jsonb_path.specs.Token.{is_ended, Named}
use Rattle.jsonb_path.specs.Turns.{Turn, ends_with, goes_on, after_turn, turns}
use Rattle.jsonb_path.proofs.TurnLaws.{Keeps, kept, turn}
use Rattle.jsonb_path.proofs.LeftLaws.{Left, escape_left}
use Rattle.jsonb_path.specs.declared.token.Reason.TheVariants as reasons
use Rattle.jsonb_path.specs.declared.token.Stop.TheVariants as stops

abbrev pub Rest : {A E : Type 0} → List ℕ → Result (A × List ℕ) E → Type 0
Rest s (Err e) = Unit {0}
Rest s (Ok x) = length x.1 ≤ length s

abbrev IsAtMost : ℕ → Result Named Reason → Type 0
IsAtMost n (Err e) = Unit {0}
IsAtMost n (Ok x) = length x.1 ≤ n

abbrev IsLess : ℕ → Result (ℕ × List ℕ) Reason → Type 0
IsLess n (Err e) = Unit {0}
IsLess n (Ok x) = length x.1 < n

rest_of_escape : (s : List ℕ) (o : Option (ℕ × List ℕ)) → Left s o → Rest s (escaped o)
rest_of_escape s None h = tt
rest_of_escape s (Some x) h = h

pub rest_if : {A E : Type 0} (s : List ℕ) (b : Bool) (o p : Result (A × List ℕ) E) → Rest s o
    → Rest s p → Rest s (if b then o else p)
rest_if s true o p h k = h
rest_if s false o p h k = k

pub rest_in : {A E : Type 0} (s t : List ℕ) (o : Result (A × List ℕ) E) → length s ≤ length t
    → Rest s o → Rest t o
rest_in s t (Err e) h k = tt
rest_in s t (Ok x) h k = omega arith

pub rest_then : {A B E : Type 0} (s : List ℕ) (o : Result (A × List ℕ) E)
    (f : A × List ℕ → Result (B × List ℕ) E) → Rest s o
    → ((a : A × List ℕ) → Rest a.1 (f a)) → Rest s (o >>> f)
rest_then s (Err e) f h each = tt
rest_then s (Ok a) f h each = rest_in a.1 s (f a) h (each a)

-- a character of a name leaves less
pub character_rest : (c : ℕ) (s : List ℕ) → Rest s (character (c ∷ s))
character_rest c s = rest_if s (c == backslash) (escaped (escape_at s)) (Ok (c, s))
    (rest_of_escape s (escape_at s) (escape_left s)) (omega arith)

character_any : (s : List ℕ) → Rest s (character s)
character_any [] = tt
character_any (c ∷ s) = rest_in s (c ∷ s) (character (c ∷ s)) (omega arith) (character_rest c s)

character_keeps : (n : ℕ) (front s : List ℕ) (r : Result (ℕ × List ℕ) Reason) → length s ≤ n
    → Rest s r
    → Keeps (λ (x : Named). length x.1 ≤ n) (IsAtMost n) (and_character front r)
character_keeps n front s (Err e) h k = tt
character_keeps n front s (Ok x) h k = omega arith

keeps_if : (n : ℕ) (b : Bool) (t u : Turn Named (Result Named Reason))
    → Keeps (λ (x : Named). length x.1 ≤ n) (IsAtMost n) t
    → Keeps (λ (x : Named). length x.1 ≤ n) (IsAtMost n) u
    → Keeps (λ (x : Named). length x.1 ≤ n) (IsAtMost n) (if b then t else u)
keeps_if n true t u h k = h
keeps_if n false t u h k = k

content_keeps : (ending : Ending) (n : ℕ) (x : Named) → length x.1 ≤ n
    → Keeps (λ (y : Named). length y.1 ≤ n) (IsAtMost n) (content_turn ending x)
content_keeps ending n x h = keeps_if n (is_ended ending x.1) (ends_with (Ok x))
    (and_character x.0 (character x.1)) h
    (character_keeps n x.0 x.1 (character x.1) h (character_any x.1))

rest_at_most : (s : List ℕ) (r : Result Named Reason) → IsAtMost (length s) r → Rest s r
rest_at_most s (Err e) h = tt
rest_at_most s (Ok x) h = h

pub content_rest : (ending : Ending) (front s : List ℕ) → Rest s (content_of ending front s)
unfolding content_of
content_rest ending front s =
    rest_at_most s
    (turns (content_turn ending) (Err reasons.UnclosedText) (suc (length s)) (front, s))
    (kept (content_turn ending) (Err reasons.UnclosedText) (λ x. length x.1 ≤ length s)
    (IsAtMost (length s)) tt (content_keeps ending (length s)) (suc (length s)) (front, s)
    (omega arith))

abbrev left_of : Turn Named (Result Named Reason) → List ℕ
left_of (ends_with y) = []
left_of (goes_on x) = x.1

goes_past : (front : List ℕ) (n : ℕ) (r : Result (ℕ × List ℕ) Reason)
    (y : Named) → IsLess n r → and_character front r ≡ goes_on y → length y.1 < n
goes_past front n (Err e) y h same = absurd (let no : ⊥ = cc in no)
goes_past front n (Ok x) y h same =
    let rest : x.1 ≡ y.1 = ap left_of same in
    let k : length x.1 ≡ length y.1 = ap length rest in
    omega arith

less_of_rest : (c : ℕ) (s : List ℕ) (r : Result (ℕ × List ℕ) Reason) → Rest s r
    → IsLess (suc (length s)) r
less_of_rest c s (Err e) h = tt
less_of_rest c s (Ok x) h = omega arith

character_less : (s : List ℕ) → IsLess (length s) (character s)
character_less [] = tt
character_less (c ∷ s) = less_of_rest c s (character (c ∷ s)) (character_rest c s)

pub character_shorter : (s : List ℕ) (c : ℕ) (rest : List ℕ) → character s ≡ Ok (c, rest)
    → length rest < length s
character_shorter s c rest e = subst (IsLess (length s)) e (character_less s)

goes_if : (b : Bool) (x y : Named) (t : Turn Named (Result Named Reason))
    → (t ≡ goes_on y → length y.1 < length x.1)
    → (if b then ends_with (Ok x) else t) ≡ goes_on y → length y.1 < length x.1
goes_if true x y t h same = absurd (let no : ⊥ = cc in no)
goes_if false x y t h same = h same

content_smaller : (ending : Ending) (x y : Named) → content_turn ending x ≡ goes_on y
    → length y.1 < length x.1
content_smaller ending x y same =
    goes_if (is_ended ending x.1) x y (and_character x.0 (character x.1))
    (goes_past x.0 (length x.1) (character x.1) y (character_less x.1)) same

-- a name by its next character
next_content : (ending : Ending) (front s : List ℕ) → content_of ending front s
    ≡ after_turn (λ y. content_of ending y.0 y.1) (content_turn ending (front, s))
unfolding content_of
next_content ending front s = turn (content_turn ending) (Err reasons.UnclosedText)
    (λ x. length x.1) (content_smaller ending) (front, s)

pub content_ends : (ending : Ending) (front s : List ℕ) → is_ended ending s ≡ true
    → content_of ending front s ≡ Ok (front, s)
content_ends ending front s e = next_content ending front s
    ∙ ap (λ (b : Bool). after_turn (λ (y : Named). content_of ending y.0 y.1)
    (if b then ends_with (Ok (front, s)) else and_character front (character s))) e

pub content_fails : (ending : Ending) (front s : List ℕ) (r : Reason) → is_ended ending s ≡ false
    → character s ≡ Err r → content_of ending front s ≡ Err r
content_fails ending front s r e f = next_content ending front s
    ∙ ap (λ (b : Bool). after_turn (λ (y : Named). content_of ending y.0 y.1)
    (if b then ends_with (Ok (front, s)) else and_character front (character s))) e
    ∙ ap (λ (k : Result (ℕ × List ℕ) Reason).
    after_turn (λ (y : Named). content_of ending y.0 y.1) (and_character front k)) f

pub content_more : (ending : Ending) (front s : List ℕ) (c : ℕ) (rest : List ℕ)
    → is_ended ending s ≡ false → character s ≡ Ok (c, rest)
    → content_of ending front s ≡ content_of ending (front ++ encode_utf8 c) rest
content_more ending front s c rest e f = next_content ending front s
    ∙ ap (λ (b : Bool). after_turn (λ (y : Named). content_of ending y.0 y.1)
    (if b then ends_with (Ok (front, s)) else and_character front (character s))) e
    ∙ ap (λ (k : Result (ℕ × List ℕ) Reason).
    after_turn (λ (y : Named). content_of ending y.0 y.1) (and_character front k)) f

pub content_stops : (e : Stop) (ending : Ending) (front s : List ℕ) (total : Result Named Reason)
    → is_ended ending s ≡ false → Stops e (character s) → content_of ending front s ≡ total
    → Stops e total
content_stops stops.OutOfMemory ending front s total not stop same = tt
content_stops (stops.Refused r) ending front s total not stop same =
    sym same ∙ content_fails ending front s r not stop

pub ruleset content_laws = (content_ends, content_more, content_stops, character_shorter)
