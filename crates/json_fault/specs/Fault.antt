-- Where a text is not JSON, and why.
use Rattle.std.specs.Prelude.{◌≡◌, ◌⊎◌, ◌↔◌, ℕ, true, List, [], ◌∷◌, ◌++◌, length, encode_utf8_all}
use Rattle.jsonb_value.specs.Tree.{Tree}
use Rattle.jsonb_value.specs.declared.parser.number.Exponents.{Exponents}
use Rattle.jsonb_value.specs.declared.parser.number.Exponents.TheVariants.{Forbidden, Allowed}
use Rattle.jsonb_value.specs.Json.Characters.{zero_digit}
use Rattle.jsonb_value.specs.Json.Numeral.{Numeral, is_numeral, numeral_text}
use Rattle.jsonb_value.specs.Json.Syntax.{JsonText}
use Rattle.json_fault.specs.declared.fault.Fault.{Fault}
use Rattle.json_fault.specs.declared.fault.FaultReason.TheVariants.{Number}

-- The characters are a JSON text, with exponents if they are allowed.
abbrev pub IsJsonUnder : Exponents → List ℕ → Type 0
IsJsonUnder rule s = (t : Tree) × JsonText rule s t

-- The characters begin a JSON text.
abbrev pub Begins : Exponents → List ℕ → Type 0
Begins rule s = (rest : List ℕ) × IsJsonUnder rule (s ++ rest)

-- The first part of a text is its longest beginning that begins a JSON text.
pub record IsFault (rule : Exponents) (front back : List ℕ) : Type 0 where
  pub begins : Begins rule front
  pub longest : (c : ℕ) (rest : List ℕ) → back ≡ c ∷ rest → Begins rule (front ++ c ∷ []) → ⊥

-- The code of a new line, which is white space and may not be in a string.
abbrev pub new_line : ℕ
new_line = 10

-- The characters begin a number of any size, with an exponent or without.
abbrev pub BeginsNumber : List ℕ → Type 0
BeginsNumber s =
    (n : Numeral) × ((is_numeral Allowed n ≡ true)
    × ((rest : List ℕ) × (numeral_text n ≡ s ++ rest)))

-- The first part of a text ends in an unfinished or too large number, which begins where a number
-- may be after a new line: no new line may follow it, or the next character goes on with it.
pub record EndsInNumber (rule : Exponents) (front back : List ℕ) : Type 0 where
  pub before : List ℕ
  pub number : List ℕ
  pub is_split : front ≡ before ++ number
  pub is_expected : Begins rule (before ++ new_line ∷ zero_digit ∷ [])
  pub is_number : BeginsNumber number
  pub is_at_fault : (Begins rule (front ++ new_line ∷ []) → ⊥)
      ⊎ ((c : ℕ) × ((rest : List ℕ) × ((back ≡ c ∷ rest) × BeginsNumber (number ++ c ∷ []))))

-- The offset is the length in bytes of the longest beginning of the characters that begins a JSON
-- text, and the reason is the numbers exactly if that ends in an unfinished or too large number.
pub record IsFaultUnder (rule : Exponents) (s : List ℕ) (fault : Fault) : Type 0 where
  pub front : List ℕ
  pub back : List ℕ
  pub is_split : s ≡ front ++ back
  pub is_fault : IsFault rule front back
  pub is_offset : fault.offset ≡ length (encode_utf8_all front)
  pub is_reason : (fault.reason ≡ Number) ↔ EndsInNumber rule front back

-- The characters are a JSON text without exponents.
abbrev pub IsJson : List ℕ → Type 0
IsJson = IsJsonUnder Forbidden

-- The fault of a text in which numbers have no exponents.
abbrev pub IsFaultAt : List ℕ → Fault → Type 0
IsFaultAt = IsFaultUnder Forbidden

-- The characters are a JSON text, with or without exponents.
abbrev pub IsJsonWithExponents : List ℕ → Type 0
IsJsonWithExponents = IsJsonUnder Allowed

-- The fault of a text in which numbers may have exponents.
abbrev pub IsFaultAtWithExponents : List ℕ → Fault → Type 0
IsFaultAtWithExponents = IsFaultUnder Allowed
