-- JSON values that stand one after another, told apart by their brackets and quotes alone.
use Rattle.std.specs.Prelude.{◌≡◌, ◌≢◌, ◌==◌, ◌||◌, ◌+◌, ◌-◌, ℕ, Bool, true, false, List, [], ◌∷◌}
use Rattle.std.specs.Prelude.{◌++◌, if◌then◌else◌, Option, None, Some, ⊤}
use Rattle.jsonb_value.specs.Json.Characters.{is_blank}
use Rattle.array_items.specs.Blanks.{trimmed}
use Rattle.array_items.specs.declared.value.Place.{Place}
use Rattle.array_items.specs.declared.value.Place.TheVariants.{Before, Word, Container, Text}
use Rattle.array_items.specs.declared.value.Place.TheVariants.{Escape, After}
use Rattle.array_items.specs.declared.value.Step.{Step}
use Rattle.array_items.specs.declared.value.Step.TheVariants.{Skip, Take, Leave}
use Rattle.array_items.specs.declared.value.Held.{Held}
use Rattle.array_items.specs.declared.value.Held.TheVariants.{Bytes, End, Interrupted}

-- Whether a byte is one of `[` and `{`.
abbrev pub opens : ℕ → Bool
opens b = b == 91 || b == 123

-- Whether a byte is one of `]` and `}`.
abbrev pub closes : ℕ → Bool
closes b = b == 93 || b == 125

-- Whether a byte is one of `"`, `[` and `{`.
abbrev pub begins_value : ℕ → Bool
begins_value b = b == 34 || opens b

-- The place after a text or a closing bracket, where so many brackets are open: a value has ended
-- if none is.
abbrev pub ended : ℕ → Place
ended depth = if depth == 0 then After else Container depth

-- Before a value white space is skipped. Brackets begin an array or an object, a quote begins a
-- text, and any other byte a number or a word.
abbrev pub first_step : ℕ → Step
first_step b =
    if is_blank b then Skip
    else if b == 34 then Take (Text 0)
    else if opens b then Take (Container 1)
    else Take Word

-- Between the texts of a value brackets of both kinds count together.
abbrev pub container_step : ℕ → ℕ → Step
container_step depth b =
    if b == 34 then Take (Text depth)
    else if opens b then Take (Container (depth + 1))
    else if closes b then Take (ended (depth - 1))
    else Take (Container depth)

-- A text ends at a quote.
abbrev pub text_step : ℕ → ℕ → Step
text_step depth b =
    if b == 92 then Take (Escape depth)
    else if b == 34 then Take (ended depth)
    else Take (Text depth)

-- Whether a byte is none of a number or a word.
abbrev pub ends_word : ℕ → Bool
ends_word b = is_blank b || (b == 44 || (closes b || begins_value b))

-- What becomes of a byte at a place. A number or a word ends before white space, a comma and a
-- closing bracket, and before what begins another value; a byte after a backslash is of the text.
abbrev pub step_at : Place → ℕ → Step
step_at Before b = first_step b
step_at Word b = if ends_word b then Leave else Take Word
step_at (Container depth) b = container_step depth b
step_at (Text depth) b = text_step depth b
step_at (Escape depth) b = Take (Text depth)
step_at After b = Leave

-- Whether a value has ended.
abbrev pub has_ended : Place → Bool
has_ended After = true
has_ended place = false

-- What a byte adds to a value, where `more` gives what the bytes after it add from each place.
abbrev pub value_by : Step → ℕ → (Place → List ℕ) → List ℕ
value_by Skip b more = more Before
value_by (Take next) b more = b ∷ more next
value_by Leave b more = []

-- The bytes of the first value, from a place within it.
abbrev pub value_from : Place → List ℕ → List ℕ
value_from place [] = []
value_from place (b ∷ bytes) = value_by (step_at place b) b (λ next. value_from next bytes)

-- What follows a value, by what becomes of its next byte.
abbrev pub left_by : Step → ℕ → List ℕ → (Place → List ℕ) → List ℕ
left_by Skip b bytes more = more Before
left_by (Take next) b bytes more = more next
left_by Leave b bytes more = b ∷ bytes

-- The bytes that follow the first value, from a place within it.
abbrev pub left_from : Place → List ℕ → List ℕ
left_from place [] = []
left_from place (b ∷ bytes) = left_by (step_at place b) b bytes (λ next. left_from next bytes)

-- The place after a byte and those after it.
abbrev pub place_by : Step → (Place → Place) → Place
place_by Skip more = more Before
place_by (Take next) more = more next
place_by Leave more = After

-- The place after these bytes.
abbrev pub place_after : Place → List ℕ → Place
place_after place [] = place
place_after place (b ∷ bytes) = place_by (step_at place b) (λ next. place_after next bytes)

-- The first value of some bytes, and what follows it.
abbrev pub IsFirstValue : List ℕ → List ℕ → List ℕ → Type 0
IsFirstValue bytes value rest =
    (bytes ≢ []) × ((value ≡ value_from Before bytes) × (rest ≡ left_from Before bytes))

-- The first value was taken, where there is a byte.
abbrev pub TakesFirst : List ℕ → List ℕ → List ℕ → Bool → Type 0
TakesFirst bytes rest value true = IsFirstValue bytes value rest
TakesFirst bytes rest value false = bytes ≡ []

-- The same where the bytes are known.
abbrev pub TakesValue : Option (List ℕ) → Option (List ℕ) → List ℕ → Bool → Type 0
TakesValue None new value is_value = ⊤
TakesValue (Some bytes) None value is_value = ⊥
TakesValue (Some bytes) (Some rest) value is_value = TakesFirst bytes rest value is_value

-- The first value after white space, and what follows it.
abbrev pub IsNextValue : List ℕ → List ℕ → List ℕ → Type 0
IsNextValue bytes value rest = IsFirstValue (trimmed bytes) value rest

-- The next value was read, or white space alone was left.
abbrev pub ReadsNext : List ℕ → List ℕ → List ℕ → Bool → Type 0
ReadsNext bytes rest value true = IsNextValue bytes value rest
ReadsNext bytes rest value false = (trimmed bytes ≡ []) × (rest ≡ [])

-- The same where the bytes are known.
abbrev pub ReadsValue : Option (List ℕ) → Option (List ℕ) → List ℕ → Bool → Type 0
ReadsValue None new value is_value = ⊤
ReadsValue (Some bytes) None value is_value = ⊥
ReadsValue (Some bytes) (Some rest) value is_value = ReadsNext bytes rest value is_value

-- A part of a value was taken after those of before, so that the rest of it, and what follows it,
-- is there yet.
pub record TakesPart (bytes rest : List ℕ) (old new : Place) (before after : List ℕ) : Type 0 where
  pub value : before ++ value_from old bytes ≡ after ++ value_from new rest
  pub left : left_from old bytes ≡ left_from new rest

-- Bytes were there or not.
abbrev pub IsHeld : List ℕ → List ℕ → Held → Type 0
IsHeld bytes rest Bytes = bytes ≢ []
IsHeld bytes rest End = (bytes ≡ []) × (rest ≡ [])
IsHeld bytes rest Interrupted = rest ≡ bytes

-- The same where the bytes are known.
abbrev pub TakesHeld : Option (List ℕ) → Option (List ℕ) → Place → Place → List ℕ → List ℕ → Held
    → Type 0
TakesHeld None new from to before after held = ⊤
TakesHeld (Some bytes) None from to before after held = ⊥
TakesHeld (Some bytes) (Some rest) from to before after held =
    TakesPart bytes rest from to before after × IsHeld bytes rest held
