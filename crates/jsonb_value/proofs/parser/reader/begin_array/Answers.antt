use Rattle.std.proofs.Common.{inl, refl}
use Rattle.jsonb_value.proofs.Json.ReaderSteps.{array_begins, array_is_empty, past_first, first_is}
use Rattle.jsonb_value.proofs.Json.ReaderSteps.{past_empty}
use Rattle.jsonb_value.proofs.Json.Within.{empty_within, full_is_deeper, opens_within, room}
use Rattle.jsonb_value.proofs.parser.reader.begin_array.Goals as goal

pub returns-in-Some-after_char-clause-ok : goal.returns-in-Some-after_char-clause-ok
returns-in-Some-after_char-clause-ok g c = λ rule target h.
    array_is_empty rule g.S.Sink.is target _ _ _ _ _ _ _ _ _ h c.in-Some.ensures
    (first_is _ _ _ _ c.in-Some.ensures c.requires.first)
    c.skip_blank-inside.ensures c.in-Some-after_char.ensures c.in_ok-begin_array.ensures.ok
    c.in_ok-end_array.ensures.ok

pub returns-in-Some-after_char-clause-shorter : goal.returns-in-Some-after_char-clause-shorter
returns-in-Some-after_char-clause-shorter g c =
    past_empty _ _ _ _ _ _ c.in-Some.ensures c.skip_blank-inside.ensures
    c.in-Some-after_char.ensures

pub returns-clause-ok : goal.returns-clause-ok
returns-clause-ok g c = λ rule target h.
    array_begins rule g.S.Sink.is target _ _ _ _ _ _ _ _ h c.in-Some.ensures
    (first_is _ _ _ _ c.in-Some.ensures c.requires.first)
    c.skip_blank-inside.ensures c.in_default-after_char.ensures c.in_ok-begin_array.ensures.ok
    c.in_ok-push.ensures.ok

pub returns-clause-shorter : goal.returns-clause-shorter
returns-clause-shorter g c = past_first _ _ _ _ c.in-Some.ensures c.skip_blank-inside.ensures

pub returns-then-is_full-clause-err : goal.returns-then-is_full-clause-err
returns-then-is_full-clause-err g c = λ target h.
    absurd (full_is_deeper c.args.kinds.now _ _ _ (c.is_full.ensures.0 c.if-is_full.true) c.in-Some.ensures
    (inl (first_is _ _ _ _ c.in-Some.ensures c.requires.first)) h)

pub returns-in-Some-after_char-clause-deep : goal.returns-in-Some-after_char-clause-deep
returns-in-Some-after_char-clause-deep g c =
    empty_within c.args.kinds.now _ _ _ _ _ _ (room c.args.kinds.now _ c.is_full.ensures c.if-is_full.false)
    c.in-Some.ensures (inl (first_is _ _ _ _ c.in-Some.ensures c.requires.first))
    c.skip_blank-inside.ensures c.in-Some-after_char.ensures (inl refl)

pub returns-clause-deep : goal.returns-clause-deep
returns-clause-deep g c =
    opens_within c.args.kinds.now _ _ _ _ _ _ c.in_ok-push.ensures.ok c.in_ok-push.ensures.limit
    c.in-Some.ensures (inl (first_is _ _ _ _ c.in-Some.ensures c.requires.first))
    c.skip_blank-inside.ensures

pub push-requires : goal.push-requires
push-requires g c = room c.args.kinds.now _ c.is_full.ensures c.if-is_full.false
