use Rattle.std.proofs.Common.{inr, ap, ◌∙◌, refl, arith, length}
use Rattle.jsonb_value.specs.Json.Characters.{close_brace}
use Rattle.jsonb_value.specs.Reader.Reading.{expect}
use Rattle.jsonb_value.proofs.Json.ReaderSteps.{object_begins, object_is_empty, first_is}
use Rattle.jsonb_value.proofs.Json.ReaderSteps.{past_empty}
use Rattle.jsonb_value.proofs.Json.Within.{empty_within, full_is_deeper, room}
use Rattle.jsonb_value.proofs.Json.Within.{opens_unskipped_within, both_ways}
use Rattle.jsonb_value.proofs.Json.ValueSteps.{err_is, fails_if}
use Rattle.jsonb_value.proofs.parser.reader.begin_object.Goals as goal

pub returns-in-Some-after_char-clause-ok : goal.returns-in-Some-after_char-clause-ok
returns-in-Some-after_char-clause-ok g c = λ rule target h.
    object_is_empty rule g.S.Sink.is target _ _ _ _ _ _ _ _ _ h c.in-Some.ensures
    (first_is _ _ _ _ c.in-Some.ensures c.requires.first)
    c.skip_blank.ensures c.in-Some-after_char.ensures c.in_ok-begin_object.ensures.ok
    c.in_ok-end_object.ensures.ok

pub returns-in-Some-after_char-clause-shorter : goal.returns-in-Some-after_char-clause-shorter
returns-in-Some-after_char-clause-shorter g c =
    past_empty _ _ _ _ _ _ c.in-Some.ensures c.skip_blank.ensures
    c.in-Some-after_char.ensures

pub returns-clause-ok : goal.returns-clause-ok
returns-clause-ok g c = λ rule target h.
    c.in_ok-read_key.ensures.ok rule target _
    (object_begins rule g.S.Sink.is target _ _ _ _ _ _ _ h c.in-Some.ensures
    (first_is _ _ _ _ c.in-Some.ensures c.requires.first)
    (c.in_default-after_char.ensures ∙ ap (expect close_brace) c.skip_blank.ensures)
    c.in_ok-begin_object.ensures.ok c.in_ok-push.ensures.ok)

pub returns-in_err-read_key-clause-err : goal.returns-in_err-read_key-clause-err
returns-in_err-read_key-clause-err g c =
    err_is _ _ _ c.from_residual-in_err-read_key.ensures.1 (λ rule target h.
    fails_if _ _ _ (c.in_err-read_key.ensures.err rule target _
    (object_begins rule g.S.Sink.is target _ _ _ _ _ _ _ h c.in-Some.ensures
    (first_is _ _ _ _ c.in-Some.ensures c.requires.first)
    (c.in_default-after_char.ensures ∙ ap (expect close_brace) c.skip_blank.ensures)
    c.in_ok-begin_object.ensures.ok c.in_ok-push.ensures.ok)))

pub returns-clause-shorter : goal.returns-clause-shorter
returns-clause-shorter g c =
    omega (arith, c.in_ok-read_key.ensures.shorter, ap length c.in-Some.ensures)

pub read_key-requires : goal.read_key-requires
read_key-requires g c κs =
    let (rule, (target, h)) = c.requires.stands in (
      (refl, tt),
      (
        rule,
        (
          target,
          (
            _,
            (object_begins rule g.S.Sink.is target _ _ _ _ _ _ _ h c.in-Some.ensures
                (first_is _ _ _ _ c.in-Some.ensures c.requires.first)
                (c.in_default-after_char.ensures ∙ ap (expect close_brace) c.skip_blank.ensures)
                c.in_ok-begin_object.ensures.ok c.in_ok-push.ensures.ok),
          ),
        ),
      ),
    )

pub returns-then-is_full-clause-err : goal.returns-then-is_full-clause-err
returns-then-is_full-clause-err g c = λ rule target stands h.
    absurd (full_is_deeper c.args.kinds.now _ _ _ (c.is_full.ensures.0 c.if-is_full.true) c.in-Some.ensures
    (inr (first_is _ _ _ _ c.in-Some.ensures c.requires.first)) h)

pub returns-in-Some-after_char-clause-deep : goal.returns-in-Some-after_char-clause-deep
returns-in-Some-after_char-clause-deep g c =
    empty_within c.args.kinds.now _ _ _ _ _ _ (room c.args.kinds.now _ c.is_full.ensures c.if-is_full.false)
    c.in-Some.ensures (inr (first_is _ _ _ _ c.in-Some.ensures c.requires.first))
    c.skip_blank.ensures c.in-Some-after_char.ensures (inr refl)

pub returns-clause-deep : goal.returns-clause-deep
returns-clause-deep g c =
    both_ways
    (opens_unskipped_within c.args.kinds.now _ _ _ _ _ c.in_ok-push.ensures.ok
    c.in_ok-push.ensures.limit
    c.in-Some.ensures (inr (first_is _ _ _ _ c.in-Some.ensures c.requires.first)))
    (c.in_ok-read_key.ensures.deep _)

pub push-requires : goal.push-requires
push-requires g c = room c.args.kinds.now _ c.is_full.ensures c.if-is_full.false
