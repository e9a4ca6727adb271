use Rattle.std.proofs.Common.{ℕ, ap₂, ◌∙◌}
use Rattle.jsonb_codec.specs.declared.jentry.JEntry.{JEntry}
use Rattle.jsonb_codec.proofs.JEntryLaws.{bit_and-type, bit_and-length, bit_or-parts}
use Rattle.jsonb_codec.proofs.JEntryLaws.{type-arithmetic}
use Rattle.jsonb_codec.proofs.jentry.JEntry.decode_jentry.Goals as goal

pub returns-clause-value : goal.returns-clause-value
returns-clause-value c =
    let k = c.args.encoded in
    ap₂ (λ (t n : ℕ). let entry : JEntry = record { type_code = t; length = n } in entry)
    (bit_and-type k ∙ type-arithmetic k) (bit_and-length k)

pub returns-clause-again : goal.returns-clause-again
returns-clause-again c = bit_or-parts _
