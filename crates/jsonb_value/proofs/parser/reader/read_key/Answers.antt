use Rattle.std.proofs.Common.{refl}
use Rattle.jsonb_value.proofs.Json.ReaderSteps.{key_is_read, key_unquoted, key_unread}
use Rattle.jsonb_value.proofs.Json.ReaderSteps.{key_uncoloned}
use Rattle.jsonb_value.proofs.Json.ReaderSteps.{past_key, holds_key}
use Rattle.jsonb_value.proofs.Json.ValueSteps.{err_is}
use Rattle.jsonb_value.proofs.Json.Within.{key_within}
use Rattle.jsonb_value.proofs.parser.reader.read_key.Goals as goal

pub returns-in_default-clause-err : goal.returns-in_default-clause-err
returns-in_default-clause-err g c = λ rule target kinds h.
    key_unquoted rule g.S.Sink.is target _ kinds _ _ h c.skip_blank.ensures c.in_default.ensures

pub returns-in_err-after-clause-err : goal.returns-in_err-after-clause-err
returns-in_err-after-clause-err g c =
    err_is _ _ _ c.from_residual.ensures.1 (λ rule target kinds h.
    key_unread rule g.S.Sink.is target _ kinds _ _ _ _ h c.skip_blank.ensures c.in-Some.ensures
    c.in_err-after.ensures.err)

pub returns-in_default-after_char-clause-err : goal.returns-in_default-after_char-clause-err
returns-in_default-after_char-clause-err g c = λ rule target kinds h.
    let (key, (reads, adds)) = c.in_ok-after.ensures.ok in
    key_uncoloned rule g.S.Sink.is target _ kinds _ _ _ _ _ _ h c.skip_blank.ensures
    c.in-Some.ensures reads c.skip_blank-2.ensures c.in_default-after_char.ensures

pub returns-clause-ok : goal.returns-clause-ok
returns-clause-ok g c = λ rule target kinds h.
    let (key, (reads, adds)) = c.in_ok-after.ensures.ok in
    key_is_read rule g.S.Sink.is target _ _ kinds _ _ _ _ _ _ _ _ h c.skip_blank.ensures
    c.in-Some.ensures reads c.skip_blank-2.ensures c.in-Some-after_char.ensures
    c.skip_blank-3.ensures adds

pub returns-clause-shorter : goal.returns-clause-shorter
returns-clause-shorter g c =
    let (key, (reads, adds)) = c.in_ok-after.ensures.ok in
    past_key _ _ _ _ _ _ _ _ c.skip_blank.ensures c.in-Some.ensures reads
    c.skip_blank-2.ensures c.in-Some-after_char.ensures c.skip_blank-3.ensures

pub give_key-requires : goal.give_key-requires
give_key-requires g c κs = (
  (refl, tt),
  holds_key _ g.S.Sink.is _ c.requires.1.1.0 _ (c.requires.1.0, c.requires.1.1.1),
)

pub returns-clause-deep : goal.returns-clause-deep
returns-clause-deep g c = λ kinds.
    let (key, (reads, adds)) = c.in_ok-after.ensures.ok in
    key_within kinds _ _ _ _ _ _ _ _ c.skip_blank.ensures c.in-Some.ensures reads
    c.skip_blank-2.ensures c.in-Some-after_char.ensures c.skip_blank-3.ensures
