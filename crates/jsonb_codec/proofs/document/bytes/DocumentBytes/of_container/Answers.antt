use Rattle.std.proofs.Common.{inr, ◌∙◌}
use Rattle.std.proofs.Math.Logic.{∥∥₁_map}
use Rattle.jsonb_codec.proofs.document.bytes.DocumentBytes.of_container.Goals as goal

pub invariant_of-result : goal.invariant_of-result
invariant_of-result c =
    record { fact = ∥∥₁_map c.args.part.fact (λ (t, h). (t, inr (h.0 ∙ c.requires, h.1))) }
