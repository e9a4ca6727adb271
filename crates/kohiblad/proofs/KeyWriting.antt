-- What is written for a comparable key has the laws of that key.
use Rattle.std.proofs.Common.{◌≡◌, ℕ, List, take, ap₂, sym, ◌∙◌, subst, inl, inr, arith}
use Rattle.std.proofs.Math.Seq.{take-append_seam}
use Rattle.jsonb_value.specs.Meaning.{Meaning}
use Rattle.jsonb_comparable.specs.KeyLaws.{IsKeyOf}
use Rattle.kohiblad.specs.Output.{IsWrittenOut}

written_laws : (m : Meaning) (key before after : List ℕ) (size status : ℕ) → IsKeyOf m key
    → IsWrittenOut key before after size status → status ≡ 0 → IsKeyOf m (take size after)
written_laws m key before after size status laws (inl (long, inl (is, (fits, copied)))) ok =
    subst (IsKeyOf m) (sym (ap₂ take long copied ∙ take-append_seam key _)) laws
written_laws m key before after size status laws (inl (long, inr (is, small))) ok =
    absurd (omega (arith, is, ok))
written_laws m key before after size status laws (inr (is, none)) ok =
    absurd (omega (arith, is, ok))

pub key_written : (m : Meaning) (key before after : List ℕ) (size status : ℕ) → IsKeyOf m key
    → IsWrittenOut key before after size status
    → IsWrittenOut key before after size status
    × (status ≡ 0 → IsKeyOf m (take size after))
key_written m key before after size status laws written =
    (written, written_laws m key before after size status laws written)
