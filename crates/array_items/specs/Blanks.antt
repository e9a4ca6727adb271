-- White space between the tokens of JSON texts.
use Rattle.std.specs.Prelude.{◌≡◌, ℕ, Bool, true, false, List, [], ◌∷◌}
use Rattle.std.specs.Prelude.{if◌then◌else◌, Option, None, Some, ⊤}
use Rattle.jsonb_value.specs.Json.Characters.{is_blank}
use Rattle.array_items.specs.declared.held.Next.{Next}
use Rattle.array_items.specs.declared.held.Next.TheVariants.{Byte, End, Again}

-- Some bytes without the white space at their start.
abbrev pub trimmed : List ℕ → List ℕ
trimmed [] = []
trimmed (b ∷ bytes) = if is_blank b then trimmed bytes else b ∷ bytes

-- The first byte, if there is one.
abbrev pub first_byte : List ℕ → Option ℕ
first_byte [] = None
first_byte (b ∷ bytes) = Some b

-- What is left where the first byte is taken, or is not.
abbrev pub left_after : Bool → List ℕ → List ℕ
left_after is_taken [] = []
left_after true (b ∷ bytes) = bytes
left_after false (b ∷ bytes) = b ∷ bytes

-- What bytes begin with that are held: where there is none, more may come.
abbrev pub next_of : List ℕ → Next
next_of [] = Again
next_of (b ∷ bytes) = Byte b

-- White space was passed over up to this byte, which was taken or was not; or to the end.
abbrev pub PassesBlanks : Bool → Option (List ℕ) → Option (List ℕ) → Option ℕ → Type 0
PassesBlanks is_taken None new byte = ⊤
PassesBlanks is_taken (Some bytes) None byte = ⊥
PassesBlanks is_taken (Some bytes) (Some rest) byte =
    (byte ≡ first_byte (trimmed bytes)) × (rest ≡ left_after is_taken (trimmed bytes))

-- White space was passed over up to a byte, or to the end, or in part.
abbrev pub PassesPart : Bool → List ℕ → List ℕ → Next → Type 0
PassesPart is_taken bytes rest (Byte b) =
    (Some b ≡ first_byte (trimmed bytes)) × (rest ≡ left_after is_taken (trimmed bytes))
PassesPart is_taken bytes rest End = (bytes ≡ []) × (rest ≡ [])
PassesPart is_taken bytes rest Again = trimmed bytes ≡ trimmed rest

-- The same where the bytes are known.
abbrev pub PassesHeld : Bool → Option (List ℕ) → Option (List ℕ) → Next → Type 0
PassesHeld is_taken None new next = ⊤
PassesHeld is_taken (Some bytes) None next = ⊥
PassesHeld is_taken (Some bytes) (Some rest) next = PassesPart is_taken bytes rest next
