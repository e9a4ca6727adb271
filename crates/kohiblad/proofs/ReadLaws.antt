-- What is answered of a text that was read.
use Rattle.std.proofs.Common.{◌≡◌, ◌≤◌, ℕ, List, subst, inl, inr, Ok, Err, arith}
use Rattle.jsonb_value.specs.declared.error.Error.{Error}
use Rattle.jsonb_value.specs.declared.error.Error.TheVariants as errors
use Rattle.jsonb_value.specs.declared.parser.number.Exponents.{Exponents}
use Rattle.jsonb_value.specs.declared.within.ParseError.TheVariants.{Refused}
use Rattle.jsonb_value.specs.TextDepth.{text_depth}
use Rattle.kohiblad.specs.Output.{IsNoText, IsReadWithin, ReadsAs}
use Rattle.kohiblad.specs.Status.{code, IsHandedOver, IsRefused}

pub read_made : (rule : Exponents) (depth : ℕ) (text bytes before after : List ℕ) (size status : ℕ)
    → ReadsAs rule depth text (Ok bytes) → IsHandedOver bytes before after size status
    → IsReadWithin rule depth text before after size status
read_made rule depth text bytes before after size status (inl (utf8, (low, parses))) handed =
    inr (low, inr (utf8, (Ok bytes, (parses, handed))))
read_made rule depth text bytes before after size status (inr (other, never)) handed =
    absurd never

no_text : (depth : ℕ) (text : List ℕ) (e : Error) → IsNoText depth text (Err (Refused e))
    → (e ≡ errors.InvalidUtf8) × (text_depth text ≤ depth)
no_text depth text e why = grind arith

pub read_refused : (rule : Exponents) (depth : ℕ) (text before after : List ℕ) (e : Error)
    (size status : ℕ) → ReadsAs rule depth text (Err (Refused e))
    → IsRefused (code e) before after size status
    → IsReadWithin rule depth text before after size status
read_refused rule depth text before after e size status (inl (utf8, (low, why))) refused =
    inr (low, inr (utf8, (Err e, (why, refused))))
read_refused rule depth text before after e size status (inr (other, why)) refused =
    let (is, low) = no_text depth text e why in
    inr (
      low,
      inl (
        other,
        subst (λ (x : Error). IsRefused (code x) before after size status) is
            refused,
      ),
    )
