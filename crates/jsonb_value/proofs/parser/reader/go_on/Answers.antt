use Rattle.std.proofs.Common.{sym, ap, ◌∙◌, Some, refl, inl, inr, arith, chars}
use Rattle.jsonb_value.specs.Reader.IsAt.{left}
use Rattle.jsonb_value.proofs.Json.Within.{ends_within, closes_within, member_comma_within}
use Rattle.jsonb_value.proofs.Json.Within.{item_comma_within, both_ways}
use Rattle.jsonb_value.proofs.Json.ReaderSteps.{after_end, after_more, after_no_ascii}
use Rattle.jsonb_value.proofs.Json.ReaderSteps.{after_item_comma}
use Rattle.jsonb_value.proofs.Json.ReaderSteps.{after_member_comma, after_array, after_object}
use Rattle.jsonb_value.proofs.Json.ReaderSteps.{after_no_array, after_no_object, past_mark}
use Rattle.jsonb_value.proofs.Json.ReaderSteps.{past_comma}
use Rattle.jsonb_value.proofs.Json.ReaderSteps.{holds_items, holds_members}
use Rattle.jsonb_value.proofs.Json.ValueSteps.{err_as, err_is, ok_as}
use Rattle.jsonb_value.proofs.parser.reader.go_on.Goals as goal

pub returns-in_default-clause-ok : goal.returns-in_default-clause-ok
returns-in_default-clause-ok g c =
    ok_as c.end_text.result _ _ c.end_text.ensures.ok (λ step ends rule target h.
    rw ends.0 (after_end rule g.S.Sink.is target _ _ _ _ h ends.1.1
    c.skip_blank-rest.ensures ends.1.0))

pub returns-in_default-clause-err : goal.returns-in_default-clause-err
returns-in_default-clause-err g c =
    err_as c.end_text.result _ _ c.end_text.ensures.err (λ e stops rule target h.
    rw stops.0 (after_no_ascii rule g.S.Sink.is target _ _ _ _ h c.skip_blank-rest.ensures
    c.in_default.ensures stops.1))

pub returns-in_default-clause-deep : goal.returns-in_default-clause-deep
returns-in_default-clause-deep g c =
    ok_as c.end_text.result _ _ c.end_text.ensures.ok (λ step ends.
    rw ends.0 (λ h. tt, λ h. ends_within _ _ _ c.skip_blank-rest.ensures ends.1.0))

pub returns-in_default-clause-shorter : goal.returns-in_default-clause-shorter
returns-in_default-clause-shorter g c =
    ok_as c.end_text.result _ _ c.end_text.ensures.ok (λ step ends.
    omega (arith, ap left ends.0))

pub returns-in_default-innermost-clause-err : goal.returns-in_default-innermost-clause-err
returns-in_default-innermost-clause-err g c = λ rule target h.
    after_more rule g.S.Sink.is target _ _ _ _ _ _ h
    (sym c.innermost.ensures ∙ c.in_default-innermost.is) c.skip_blank-rest.ensures
    c.in-Some.ensures

pub returns-in_ok-read_key-clause-ok : goal.returns-in_ok-read_key-clause-ok
returns-in_ok-read_key-clause-ok g c = λ rule target h.
    c.in_ok-read_key.ensures.ok rule target _
    (after_member_comma rule g.S.Sink.is target _ _ _ _ _ _ h
    (sym c.innermost.ensures ∙ c.in-Some-innermost.is ∙ ap Some c.if-is_object.true)
    c.skip_blank-rest.ensures c.in-Some.ensures c.if-mark-eq44.true)

pub returns-in_err-read_key-clause-err : goal.returns-in_err-read_key-clause-err
returns-in_err-read_key-clause-err g c =
    err_is _ _ _ c.from_residual.ensures.1 (λ rule target h.
    c.in_err-read_key.ensures.err rule target _
    (after_member_comma rule g.S.Sink.is target _ _ _ _ _ _ h
    (sym c.innermost.ensures ∙ c.in-Some-innermost.is ∙ ap Some c.if-is_object.true)
    c.skip_blank-rest.ensures c.in-Some.ensures c.if-mark-eq44.true))

pub read_key-requires : goal.read_key-requires
read_key-requires g c κs =
    let (rule, (target, h)) = c.requires in (
      (refl, tt),
      (
        rule,
        (
          target,
          (
            _,
            (after_member_comma rule g.S.Sink.is target _ _ _ _ _ _ h
                (sym c.innermost.ensures ∙ c.in-Some-innermost.is ∙ ap Some c.if-is_object.true)
                c.skip_blank-rest.ensures c.in-Some.ensures c.if-mark-eq44.true),
          ),
        ),
      ),
    )

pub returns-else-is_object-clause-ok : goal.returns-else-is_object-clause-ok
returns-else-is_object-clause-ok g c = λ rule target h.
    after_item_comma rule g.S.Sink.is target _ _ _ _ _ _ _ h
    (sym c.innermost.ensures ∙ c.in-Some-innermost.is ∙ ap Some c.if-is_object.false)
    c.skip_blank-rest.ensures c.in-Some.ensures c.if-mark-eq44.true c.skip_blank.ensures

pub returns-then-mark-ne125-clause-err : goal.returns-then-mark-ne125-clause-err
returns-then-mark-ne125-clause-err g c = λ rule target h.
    after_no_object rule g.S.Sink.is target _ _ _ _ _ _ h
    (sym c.innermost.ensures ∙ c.in-Some-innermost.is ∙ ap Some c.if-is_object-2.true)
    c.skip_blank-rest.ensures c.in-Some.ensures c.if-mark-eq44.false c.if-mark-ne125.true

pub returns-then-is_object-2-clause-ok : goal.returns-then-is_object-2-clause-ok
returns-then-is_object-2-clause-ok g c = λ rule target h.
    after_object rule g.S.Sink.is target _ _ _ _ _ _ _ _ h
    (sym c.innermost.ensures ∙ c.in-Some-innermost.is ∙ ap Some c.if-is_object-2.true)
    c.skip_blank-rest.ensures c.in-Some.ensures c.if-mark-ne125.false
    c.in_ok-end_object.ensures.ok c.pop.ensures.0

pub returns-then-mark-ne93-clause-err : goal.returns-then-mark-ne93-clause-err
returns-then-mark-ne93-clause-err g c = λ rule target h.
    after_no_array rule g.S.Sink.is target _ _ _ _ _ _ h
    (sym c.innermost.ensures ∙ c.in-Some-innermost.is ∙ ap Some c.if-is_object-2.false)
    c.skip_blank-rest.ensures c.in-Some.ensures c.if-mark-eq44.false c.if-mark-ne93.true

pub returns-clause-ok : goal.returns-clause-ok
returns-clause-ok g c = λ rule target h.
    after_array rule g.S.Sink.is target _ _ _ _ _ _ _ _ h
    (sym c.innermost.ensures ∙ c.in-Some-innermost.is ∙ ap Some c.if-is_object-2.false)
    c.skip_blank-rest.ensures c.in-Some.ensures c.if-mark-ne93.false
    c.in_ok-end_array.ensures.ok c.pop-2.ensures.0

pub returns-in_ok-read_key-clause-shorter : goal.returns-in_ok-read_key-clause-shorter
returns-in_ok-read_key-clause-shorter g c =
    omega (
      arith,
      c.in_ok-read_key.ensures.shorter,
      past_mark (chars c.args.text.now) (chars c.skip_blank-rest.result.now) c.in-Some.mark
          (chars c.in-Some.after.now) c.skip_blank-rest.ensures c.in-Some.ensures,
    )

pub returns-else-is_object-clause-shorter : goal.returns-else-is_object-clause-shorter
returns-else-is_object-clause-shorter g c =
    past_comma _ _ _ _ _ c.skip_blank-rest.ensures c.in-Some.ensures c.skip_blank.ensures

pub returns-then-is_object-2-clause-shorter : goal.returns-then-is_object-2-clause-shorter
returns-then-is_object-2-clause-shorter g c =
    past_mark _ _ _ _ c.skip_blank-rest.ensures c.in-Some.ensures

pub returns-clause-shorter : goal.returns-clause-shorter
returns-clause-shorter g c = past_mark _ _ _ _ c.skip_blank-rest.ensures c.in-Some.ensures

pub end_object-requires : goal.end_object-requires
end_object-requires g c κs = (
  (refl, tt),
  holds_members _ g.S.Sink.is _ _ _ c.requires.1
      (sym c.innermost.ensures ∙ c.in-Some-innermost.is ∙ ap Some c.if-is_object-2.true),
)

pub end_array-requires : goal.end_array-requires
end_array-requires g c κs = (
  (refl, tt),
  holds_items _ g.S.Sink.is _ _ _ c.requires.1
      (sym c.innermost.ensures ∙ c.in-Some-innermost.is ∙ ap Some c.if-is_object-2.false),
)

pub returns-in_ok-read_key-clause-deep : goal.returns-in_ok-read_key-clause-deep
returns-in_ok-read_key-clause-deep g c =
    both_ways
    (member_comma_within _ _ _ _ _ c.skip_blank-rest.ensures c.in-Some.ensures c.if-mark-eq44.true)
    (c.in_ok-read_key.ensures.deep _)

pub returns-else-is_object-clause-deep : goal.returns-else-is_object-clause-deep
returns-else-is_object-clause-deep g c =
    item_comma_within _ _ _ _ _ _ c.skip_blank-rest.ensures c.in-Some.ensures c.if-mark-eq44.true
    c.skip_blank.ensures

pub returns-then-is_object-2-clause-deep : goal.returns-then-is_object-2-clause-deep
returns-then-is_object-2-clause-deep g c =
    closes_within _ _ _ _ _ _ _ (sym c.innermost.ensures ∙ c.in-Some-innermost.is)
    c.pop.ensures.0 c.pop.ensures.1 c.skip_blank-rest.ensures c.in-Some.ensures
    (inr c.if-mark-ne125.false)

pub returns-clause-deep : goal.returns-clause-deep
returns-clause-deep g c =
    closes_within _ _ _ _ _ _ _ (sym c.innermost.ensures ∙ c.in-Some-innermost.is)
    c.pop-2.ensures.0 c.pop-2.ensures.1 c.skip_blank-rest.ensures c.in-Some.ensures
    (inl c.if-mark-ne93.false)
