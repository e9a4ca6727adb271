-- The row of a value that was made.
use Rattle.std.specs.Prelude.{◌≡◌, Ok, Err}
use Rattle.jsonb_value.specs.Tree.{Tree}
use Rattle.jsonb_codec.specs.Canon.{canon, Fits}
use Rattle.kohiblad_shell.specs.declared.input.Form.{Form}
use Rattle.kohiblad_shell.specs.declared.outcome.Reason.TheVariants.{TooLarge}
use Rattle.kohiblad_shell.specs.Faults.{plain_fault}
use Rattle.kohiblad_shell.specs.Inputs.{made_row}
use Rattle.kohiblad_shell.specs.Outcomes.{Outcome}

-- The row of a value that was made, by its canonical document, unless it is too large for one.
abbrev pub IsMade : Form → Tree → Outcome → Type 0
IsMade form u (Ok lines) = Fits u × (lines ≡ made_row form (canon u))
IsMade form u (Err fault) = (Fits u → ⊥) × (fault ≡ plain_fault 0 TooLarge)
