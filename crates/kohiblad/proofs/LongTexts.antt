-- Results whose length is stored in 64 bits.
use Rattle.std.proofs.Common.{◌≡◌, ◌<◌, ◌≤◌, ◌⊎◌, ℕ, List, length, inl, inr, arith, sym, ◌∙◌}
use Rattle.std.proofs.Common.{ap, subst, IfErr, IfOk, Result, Ok, Err, Vec}
use Rattle.std.proofs.lemmas.Bool.{cases_lt}
use Rattle.std.specs.declared.alloc.Global.{Global}
use Rattle.jsonb_value.specs.declared.error.Error.{Error}
use Rattle.jsonb_value.specs.declared.error.Error.TheVariants.{OutOfMemory}
use Rattle.jsonb_value.specs.Text.{length_64}
use Rattle.kohiblad.specs.Output.{IsLongWrittenOut}
use Rattle.kohiblad.specs.Status.{IsHandedOver, IsLongHandedOver, IsRefused, code}

counted_whole : (answer : List ℕ) (n : ℕ) → n ≡ length_64 answer
    → (n ≡ 18446744073709551615 → ⊥)
    → (length answer < 18446744073709551615) ⊎ (18446744073709551615 ≤ length answer)
    → length_64 answer ≡ length answer
counted_whole answer n counted short (inl less) = omega (arith, less)
counted_whole answer n counted short (inr more) = absurd (short (omega (arith, counted, more)))

-- A count that is not the greatest is the length.
pub is_counted : (answer : List ℕ) (n : ℕ) → n ≡ length_64 answer
    → (n ≡ 18446744073709551615 → ⊥) → length_64 answer ≡ length answer
is_counted answer n counted short =
    counted_whole answer n counted short (cases_lt (length answer) 18446744073709551615)

-- A result whose length 64 bits hold is handed over as any result.
pub handed_over : (answer before after : List ℕ) (size status : ℕ)
    → length_64 answer ≡ length answer → IsHandedOver answer before after size status
    → IsLongHandedOver answer before after size status
handed_over answer before after size status e (is, inl copied) = (is ∙ sym e, inl copied)
handed_over answer before after size status e (is, inr (no_room, (short, same))) =
    (is ∙ sym e, inr (no_room, (inl short, same)))

-- A text for which there is room, and which is made or not.
pub written_out : (answer before after : List ℕ) (size status : ℕ)
    → length_64 answer ≡ length answer → length answer ≤ length before
    → (r : Result (Vec ℕ Global) Error) → IfOk r (λ text. text.items ≡ answer)
    → IfErr r (λ e. e ≡ OutOfMemory)
    → IfOk r (λ text. IsHandedOver text.items before after size status)
    → IfErr r (λ e. IsRefused (code e) before after size status)
    → IsLongWrittenOut answer before after size status
written_out answer before after size status whole fits (Ok text) is only over refused =
    inl (handed_over answer before after size status whole
    (subst (λ (b : List ℕ). IsHandedOver b before after size status) is over))
written_out answer before after size status whole fits (Err e) is only over refused =
    inr (fits, subst (λ (s : ℕ). IsRefused s before after size status) (ap code only) refused)
