-- Where a text is not JSON, and what may come there, as C receives it.
use Rattle.std.specs.Prelude.{◌≡◌, ◌⊎◌, ℕ, List, chars, length}
use Rattle.jsonb_value.specs.declared.error.Error.TheVariants.{InvalidJson, OutOfMemory}
use Rattle.json_fault.specs.declared.fault.Fault.{Fault}
use Rattle.json_fault.specs.declared.fault.FaultReason.{FaultReason}
use Rattle.json_fault.specs.declared.fault.FaultReason.TheVariants.{Syntax, Number}
use Rattle.jsonb_value.specs.declared.parser.number.Exponents.{Exponents}
use Rattle.json_fault.specs.Fault.{IsJsonUnder, IsFaultUnder}
use Rattle.json_fault.specs.Stop.{IsExpected}
use Rattle.kohiblad.specs.declared.text_expected.KohibladExpected.{KohibladExpected}
use Rattle.kohiblad.specs.declared.text_fault.KohibladFault.{KohibladFault}
use Rattle.kohiblad.specs.Status.{code, bad_number}

-- The status of a reason.
abbrev pub reason_status : FaultReason → ℕ
reason_status Syntax = code InvalidJson
reason_status Number = bad_number

-- This status, without an offset.
abbrev pub no_fault : ℕ → KohibladFault
no_fault status = record { status = status; offset = 0 }

-- The text is not JSON under a rule for exponents; the offset and the status are those of its
-- fault.
pub record IsFaultAnswer (rule : Exponents) (text : List ℕ) (answer : KohibladFault) : Type 0 where
  pub is_none : IsJsonUnder rule (chars text) → ⊥
  pub fault : Fault
  pub is_fault : IsFaultUnder rule (chars text) fault
  pub is_answer : answer ≡ record { status = reason_status fault.reason; offset = fault.offset }

-- The text is JSON, and the offset its length; or it is not; or memory ran out.
abbrev pub IsTextFault : Exponents → List ℕ → KohibladFault → Type 0
IsTextFault rule text answer =
    (IsJsonUnder rule (chars text) × (answer ≡ record { status = 0; offset = length text }))
    ⊎ (IsFaultAnswer rule text answer ⊎ (answer ≡ no_fault (code OutOfMemory)))

-- This status, without classes.
abbrev pub no_classes : ℕ → KohibladExpected
no_classes status = record { status = status; classes = 0 }

-- The classes are those that may come after the longest beginning of the text that begins a JSON
-- text.
abbrev pub AreClasses : Exponents → List ℕ → KohibladExpected → Type 0
AreClasses rule text answer =
    (answer.status ≡ 0) × IsExpected rule (chars text) answer.classes

-- The classes were found, or memory ran out.
abbrev pub IsTextExpected : Exponents → List ℕ → KohibladExpected → Type 0
IsTextExpected rule text answer =
    AreClasses rule text answer ⊎ (answer ≡ no_classes (code OutOfMemory))
