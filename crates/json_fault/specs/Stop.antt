-- Where the scan of a text stops, and what may come there.
use Rattle.std.specs.Prelude.{◌≡◌, ◌↔◌, ◌<◌, ◌+◌, ◌^◌, ℕ, Bool, true, List, [], ◌∷◌, ◌++◌, length}
use Rattle.std.specs.Prelude.{take, chars, encode_utf8_all, IsCharBoundary}
use Rattle.jsonb_value.specs.declared.parser.number.Exponents.{Exponents}
use Rattle.json_fault.specs.declared.fault.FaultReason.TheVariants.{Number}
use Rattle.json_fault.specs.declared.fault.Stop.{Stop}
use Rattle.json_fault.specs.Fault.{Begins, EndsInNumber, IsFault, IsJsonUnder}
use Rattle.json_fault.specs.Scan.{reason_at, scale_of}
use Rattle.json_fault.specs.Classes.{class_bits, followed_by}

-- The classes that may come after the longest beginning of a text that begins a JSON text: those of
-- the characters with which it begins one, and the end if it is one.
pub record IsExpected (rule : Exponents) (s : List ℕ) (classes : ℕ) : Type 0 where
  pub front : List ℕ
  pub back : List ℕ
  pub is_split : s ≡ front ++ back
  pub is_fault : IsFault rule front back
  pub may : ℕ → Bool
  pub is_may : (c : ℕ) → (may c ≡ true) ↔ Begins rule (front ++ c ∷ [])
  pub ends : Bool
  pub is_end : (ends ≡ true) ↔ IsJsonUnder rule front
  pub is : classes ≡ class_bits ends may

-- The scan stops after the longest beginning of the text's characters that begins a JSON text, and
-- knows why it ends there and which characters may come.
pub record IsStop (rule : Exponents) (text : List ℕ) (stop : Stop) : Type 0 where
  pub front : List ℕ
  pub back : List ℕ
  pub is_split : chars text ≡ front ++ back
  pub is_fault : IsFault rule front back
  pub is_offset : stop.offset ≡ length (encode_utf8_all front)
  pub is_reason : (reason_at stop.next.expected stop.character ≡ Number)
      ↔ EndsInNumber rule front back
  pub is_next : (c : ℕ) → (followed_by stop.next c ≡ true) ↔ Begins rule (front ++ c ∷ [])
  pub is_small : scale_of stop.next.expected + 1 < 2 ^ 64
  pub is_cut : IsCharBoundary text stop.offset
  pub is_front : chars (take stop.offset text) ≡ front
