use Rattle.std.proofs.Common.{◌≡◌, ◌∙◌, ◌++◌, Bool, Err, List, ap, rules, subst}
use Rattle.std.proofs.Common.{sym, ℕ}
use Rattle.std.proofs.lemmas.Bool.{false≢true}
use Rattle.typed_chunk.specs.Flags.{flags}
use Rattle.typed_chunk.specs.TextChunk.{kind_bytes, text_chunk}
use Rattle.typed_chunk.specs.TextChunkReading.{IfRead, IsTextsFault, texts_read}
use Rattle.typed_chunk.specs.TextReading.{are_blank}
use Rattle.typed_chunk.specs.declared.fault.ReadError.TheVariants.{Refused}
use Rattle.typed_chunk.proofs.HeadedLaws.{some_not_none}
use Rattle.typed_chunk.proofs.TextChunkReadLaws.{if_ok}
use Rattle.typed_chunk.proofs.text_chunk_reading.read_text_chunk.Goals as goal

pub returns-in_err-rest-clause-flags : goal.returns-in_err-rest-clause-flags
returns-in_err-rest-clause-flags c = λ fault e.
    let handed : c.from_residual.result ≡ Err (Refused c.in_err-rest.field-0.0) = search rules in
    rw handed (c.in_err-rest.ensures.fault ∙ e)

pub returns-in_err-rest-clause-fault : goal.returns-in_err-rest-clause-fault
returns-in_err-rest-clause-fault c = λ rows rest many is.
    absurd (false≢true (c.in_err-rest.ensures.back rows rest many is).0)

pub returns-in_err-rest-clause-back : goal.returns-in_err-rest-clause-back
returns-in_err-rest-clause-back c = λ items rows many long blank is.
    absurd (false≢true (c.in_err-rest.ensures.back rows (kind_bytes items rows) long is).0)

pub returns-clause-flags : goal.returns-clause-flags
returns-clause-flags c = λ fault e.
    absurd (some_not_none (sym (c.in_ok-rest.ensures.fault ∙ e)))

pub returns-clause-fault : goal.returns-clause-fault
returns-clause-fault c = λ rows rest many is.
    let back = c.in_ok-rest.ensures.back rows rest many is in
    subst (λ (bs : List Bool). IfRead c.read_behind.result (IsTextsFault bs rest)) back.1
    (subst (λ (xs : List ℕ). IfRead c.read_behind.result
    (IsTextsFault c.read_flags.new.has xs)) back.2 c.read_behind.ensures.fault)

pub returns-clause-ok : goal.returns-clause-ok
returns-clause-ok c =
    let has = c.read_flags.new.has in
    let offsets = c.read_behind.new.offsets in
    let codes = c.read_behind.new.codes in
    let bytes = c.args.bytes.now in
    if_ok c.read_behind.result
    (λ read. c.in_ok-rest.rest.now ≡ kind_bytes (texts_read read offsets codes has) has)
    (λ read. bytes ≡ text_chunk (texts_read read offsets codes has) has)
    (λ read is. c.in_ok-rest.ensures.ok ∙ ap (λ (bs : List ℕ). flags has ++ bs) is)
    c.read_behind.ensures.ok

pub returns-clause-back : goal.returns-clause-back
returns-clause-back c = λ items rows many long blank is.
    let has = c.read_flags.new.has in
    let offsets = c.read_behind.new.offsets in
    let codes = c.read_behind.new.codes in
    let back = c.in_ok-rest.ensures.back rows (kind_bytes items rows) long is in
    let inner = c.read_behind.ensures.back items (many ∙ sym c.read_flags.auto.has)
    (ap (are_blank items) back.1 ∙ blank) (back.2 ∙ ap (kind_bytes items) (sym back.1)) in (
      inner.0,
      if_ok c.read_behind.result (λ read. texts_read read offsets codes has ≡ items)
          (λ read. (has ≡ rows) × (texts_read read offsets codes rows ≡ items))
          (λ read same. (
            back.1,
            ap (texts_read read offsets codes) (sym back.1) ∙ same,
          )) inner.1,
    )
