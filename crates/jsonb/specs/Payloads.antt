-- The meanings of payloads of strings, numbers and extension values, as functions of their bytes.
use Rattle.std.specs.Prelude.{ℕ, ◌==◌, ◌%◌, if◌then◌else◌, Bool, false, List, [], ◌∷◌, length}
use Rattle.std.specs.Prelude.{Option, Some, None}
use Rattle.std.proofs.Common.{inl, inr}
use Rattle.std.specs.Str.Lossy.{utf8_valid_len}
use Rattle.jsonb_value.specs.declared.error.Error.{Error}
use Rattle.jsonb_value.specs.declared.error.Error.TheVariants.{InvalidJsonbNumber}
use Rattle.jsonb_value.specs.declared.error.Error.TheVariants.{InvalidJsonbExtension}
use Rattle.jsonb_value.specs.declared.number.Number.{Number}
use Rattle.jsonb_value.specs.Tree.{Extension}
use Rattle.jsonb_value.specs.NumCode.{NumCode}
use Rattle.jsonb_value.specs.ExtCode.{ExtCode}
use Rattle.jsonb_value.proofs.PayloadDecision.{Decided, decide_number, decide_extension}

-- The bytes are UTF-8.
abbrev pub is_text : List ℕ → Bool
is_text bytes = utf8_valid_len bytes == length bytes

-- The element that a decision found, if it found one.
abbrev pub witness_of : {A : Type 0} (P : A → Type 0) → Decided ((x : A) × P x) → Option A
witness_of P (inl h) = Some h.0
witness_of P (inr none) = None

-- The number that a payload means.
unfoldable pub number_in : List ℕ → Option Number
number_in p = witness_of (NumCode p) (decide_number p)

-- The extension value that a payload means.
unfoldable pub extension_in : List ℕ → Option Extension
extension_in p = witness_of (ExtCode p) (decide_extension p)

-- The first byte is a tag of an extension value.
abbrev pub has_known_tag : List ℕ → Bool
has_known_tag [] = false
has_known_tag (tag ∷ rest) = tag % 16 == 0

-- The error for a payload that means no extension value.
abbrev pub extension_error : List ℕ → Error
extension_error p = if has_known_tag p then InvalidJsonbNumber else InvalidJsonbExtension
