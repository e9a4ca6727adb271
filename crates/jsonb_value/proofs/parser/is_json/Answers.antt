use Rattle.std.proofs.Common.{chars, refl, subst, false, true, ◌≡◌}
use Rattle.jsonb_value.specs.Reader.Gives.{Fails}
use Rattle.jsonb_value.specs.Reader.Reading.{read_document}
use Rattle.jsonb_value.proofs.Json.Documents.{nothing_read}
use Rattle.jsonb_value.proofs.parser.is_json.Goals as goal

pub returns-in-Ok-clause-ok : goal.returns-in-Ok-clause-ok
returns-in-Ok-clause-ok c =
    let (t, (json, kept)) = c.in-Ok.ensures.ok in (λ _. (t, json), λ _. refl)

false_true : false ≡ true → ⊥
false_true e = cc

pub returns-in-Err-InvalidJson-clause-ok : goal.returns-in-Err-InvalidJson-clause-ok
returns-in-Err-InvalidJson-clause-ok c =
    let read = read_document c.args.exponents (chars c.args.text.now) in (
      λ e. absurd (false_true e),
      λ h. absurd (nothing_read c.args.exponents (chars c.args.text.now) h.0
          (subst (λ e. Fails e read) c.in-Err-InvalidJson.field-0-is
          c.in-Err-InvalidJson.ensures.err) h.1),
    )
