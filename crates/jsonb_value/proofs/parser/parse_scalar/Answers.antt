use Rattle.std.proofs.Common.{Result, Ok, Err, IfOk, sym, ◌∙◌, chars}
use Rattle.jsonb_value.proofs.Json.FirstCharacter.{no_array, no_object, scalar}
use Rattle.jsonb_value.proofs.parser.parse_scalar.Goals.{then-is_some-via-then-is_some}
use Rattle.jsonb_value.proofs.parser.parse_scalar.Goals.{then-is_some-via-else-is_some+then-is_some-2}
use Rattle.jsonb_value.proofs.parser.parse_scalar.Goals as goal

-- What holds of each success holds of this one.
of_ok : {A E : Type 0} (r : Result A E) (P Q : A → Type 0) → IfOk r P → ((x : A) → P x → Q x)
    → IfOk r Q
of_ok (Ok x) P Q is then = then x is
of_ok (Err e) P Q is then = tt

pub returns-then-is_some-clause-invalid : goal.returns-then-is_some-clause-invalid
returns-then-is_some-clause-invalid c = λ _ t json shallow. elim c.then-is_some.branch [
  | then-is_some-via-then-is_some w ↦
      no_array c.args.exponents _ (chars c.args.text.now) _ c.skip_blank-begun.ensures
      c.after_char.result c.after_char.ensures (sym c.is_some.ensures ∙ w.if-is_some.true)
      t json shallow
  | then-is_some-via-else-is_some+then-is_some-2 w ↦
      no_object c.args.exponents _ (chars c.args.text.now) _ c.skip_blank-begun.ensures
      w.after_char-else-is_some.result w.after_char-else-is_some.ensures
      (sym w.is_some-else-is_some.ensures ∙ w.if-is_some-2.true) t json shallow
]

pub returns-clause-scalar : goal.returns-clause-scalar
returns-clause-scalar c = of_ok c.parse.result _ _ c.parse.ensures.ok (λ value json.
    scalar c.args.exponents _ (chars c.args.text.now) _ c.skip_blank-begun.ensures
    c.after_char.result c.after_char-else-is_some.result
    c.after_char.ensures (sym c.is_some.ensures ∙ c.if-is_some.false)
    c.after_char-else-is_some.ensures (sym c.is_some-else-is_some.ensures ∙ c.if-is_some-2.false)
    _ json)

pub returns-clause-invalid : goal.returns-clause-invalid
returns-clause-invalid c = λ is t json _. c.parse.ensures.invalid is t json
