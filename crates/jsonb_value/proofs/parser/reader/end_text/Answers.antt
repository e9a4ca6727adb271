use Rattle.std.proofs.Common.{◌≡◌, rules, sym, ap, ◌∙◌, refl, Option, Some, None, Bool, false}
use Rattle.std.proofs.lemmas.Bool.{true≢false}
use Rattle.std.specs.Option.{is_some}
use Rattle.std.specs.Prelude.{◌==◌}
use Rattle.jsonb_value.proofs.AsciiLaws.{no_bytes, no_chars}
use Rattle.jsonb_value.proofs.parser.reader.end_text.Goals as goal
use Rattle.jsonb_value.proofs.parser.reader.end_text.Goals.{else-is_empty-via-else-is_empty}
use Rattle.jsonb_value.proofs.parser.reader.end_text.Goals.{else-is_empty-via-then-is_empty+else-is_none}

none_is : (o : Option Bool) → is_some o ≡ false → o ≡ None
none_is None none = refl
none_is (Some b) none = absurd (true≢false none)

pub returns-then-is_none-clause-ok : goal.returns-then-is_none-clause-ok
returns-then-is_none-clause-ok c = (
  refl,
  (
    no_chars _ (search rules),
    sym c.innermost.ensures ∙ none_is _ c.if-is_none.ensures,
  ),
)

pub returns-else-is_empty-clause-err : goal.returns-else-is_empty-clause-err
returns-else-is_empty-clause-err c = (
  refl,
  elim c.else-is_empty.branch [
    | else-is_empty-via-then-is_empty+else-is_none w ↦ λ empty none.
        true≢false (sym w.if-is_none.ensures ∙ ap is_some (w.innermost.ensures ∙ none))
    | else-is_empty-via-else-is_empty w ↦ λ empty none.
        let zero = no_bytes _ c.utf8.rest empty in
        true≢false
        (sym (ap (λ n. n == 0) zero) ∙ sym c.is_empty.ensures ∙ w.if-is_empty.false)
  ],
)
