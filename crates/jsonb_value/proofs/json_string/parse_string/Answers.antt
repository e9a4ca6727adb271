use Rattle.std.proofs.Common.{◌≡◌, ℕ, List, Option, Some, None, Err, IfErr, IfNone, ap, ◌∙◌, chars}
use Rattle.std.proofs.Common.{not}
use Rattle.std.specs.Prelude.{ok_or}
use Rattle.jsonb_value.specs.declared.error.Error.{Error}
use Rattle.jsonb_value.specs.declared.error.Error.TheVariants.{InvalidJson}
use Rattle.jsonb_value.specs.declared.parser.number.Exponents.TheVariants.{Forbidden}
use Rattle.jsonb_value.specs.Json.Syntax.{Json}
use Rattle.jsonb_value.specs.Tree.{Tree, text}
use Rattle.jsonb_value.proofs.Json.SpelledLaws.{one_meaning}
use Rattle.jsonb_value.proofs.Json.FirstCharacter.{no_string}
use Rattle.jsonb_value.proofs.json_string.parse_string.Goals as goal

-- What spells something else spells no string.
not_spelled : {A : Type 0} (x : Option A) (e : Error) (s : List ℕ) (t : Tree) → Json s t
    → IfNone x ((string : List ℕ) → t ≡ text string → ⊥)
    → IfErr (ok_or x e) (λ f. f ≡ InvalidJson → (string : List ℕ) → Json s (text string) → ⊥)
not_spelled None e s t json none =
    λ _ string also. none string (one_meaning s t (text string) json also)
not_spelled (Some x) e s t json none = tt

pub returns-in-Ok-clause-invalid : goal.returns-in-Ok-clause-invalid
returns-in-Ok-clause-invalid c = rw c.ok_or.ensures.value
    (not_spelled c.string_of.result _ (chars _) _ c.in-Ok.ensures.ok c.string_of.ensures.none)

pub returns-in-Err-clause-invalid : goal.returns-in-Err-clause-invalid
returns-in-Err-clause-invalid c = λ is string. c.in-Err.ensures.invalid (ap Err is) (text string)

pub returns-then-is_none-clause-invalid : goal.returns-then-is_none-clause-invalid
returns-then-is_none-clause-invalid c = λ _.
    no_string Forbidden _ (chars c.args.json.now) _ c.skip_blank.ensures c.after_char.result
    c.after_char.ensures (c.is_none.ensures ∙ ap not c.if-is_none.true)
