use Rattle.std.proofs.Common.{◌≡◌, ◌++◌, ◌∙◌, Err, List, ap, ap₂, refl, rules, sym, ℕ}
use Rattle.std.proofs.lemmas.Bool.{false≢true}
use Rattle.typed_chunk.specs.BooleanChunk.{boolean_bytes, booleans_fault, numbers_of}
use Rattle.typed_chunk.specs.Flags.{flags, some_has}
use Rattle.typed_chunk.specs.NumberChunk.{filled}
use Rattle.typed_chunk.proofs.HeadedLaws.{some_not_none}
use Rattle.typed_chunk.proofs.boolean_reading.read_boolean_chunk.Goals as goal

pub returns-in_err-rest-clause-flags : goal.returns-in_err-rest-clause-flags
returns-in_err-rest-clause-flags c = λ fault e.
    let handed : c.from_residual.result ≡ Err c.in_err-rest.field-0.0 = search rules in
    rw handed (c.in_err-rest.ensures.fault ∙ e)

pub returns-in_err-rest-clause-fault : goal.returns-in_err-rest-clause-fault
returns-in_err-rest-clause-fault c = λ rows rest many is.
    absurd (false≢true (c.in_err-rest.ensures.back rows rest many is).0)

pub returns-in_err-rest-clause-back : goal.returns-in_err-rest-clause-back
returns-in_err-rest-clause-back c = λ items rows many long is.
    absurd (false≢true (c.in_err-rest.ensures.back rows (boolean_bytes items rows) long is).0)

pub returns-in_err-read_booleans-clause-flags : goal.returns-in_err-read_booleans-clause-flags
returns-in_err-read_booleans-clause-flags c = λ fault e.
    absurd (some_not_none (sym (c.in_ok-rest.ensures.fault ∙ e)))

pub returns-in_err-read_booleans-clause-fault : goal.returns-in_err-read_booleans-clause-fault
returns-in_err-read_booleans-clause-fault c = λ rows rest many is.
    let back = c.in_ok-rest.ensures.back rows rest many is in
    let handed : c.from_residual-in_err-read_booleans.result
    ≡ Err c.in_err-read_booleans.field-0.0 = search rules in
    rw handed (c.in_err-read_booleans.ensures.fault ∙ ap₂ booleans_fault back.1 back.2)

pub returns-in_err-read_booleans-clause-back : goal.returns-in_err-read_booleans-clause-back
returns-in_err-read_booleans-clause-back c = λ items rows many long is.
    let back = c.in_ok-rest.ensures.back rows (boolean_bytes items rows) long is in
    absurd (false≢true (c.in_err-read_booleans.ensures.back items (many ∙ sym c.read_flags.auto.has)
    (back.2 ∙ ap (boolean_bytes items) (sym back.1))).0)

pub returns-clause-flags : goal.returns-clause-flags
returns-clause-flags c = λ fault e.
    absurd (some_not_none (sym (c.in_ok-rest.ensures.fault ∙ e)))

pub returns-clause-fault : goal.returns-clause-fault
returns-clause-fault c = λ rows rest many is.
    let back = c.in_ok-rest.ensures.back rows rest many is in
    c.in_ok-read_booleans.ensures.fault ∙ ap₂ booleans_fault back.1 back.2

pub returns-clause-ok : goal.returns-clause-ok
returns-clause-ok c =
    c.in_ok-rest.ensures.ok
    ∙ ap (λ (bs : List ℕ). flags c.read_flags.new.has ++ bs) c.in_ok-read_booleans.ensures.ok

pub returns-clause-back : goal.returns-clause-back
returns-clause-back c = λ items rows many long is.
    let back = c.in_ok-rest.ensures.back rows (boolean_bytes items rows) long is in
    let inner = c.in_ok-read_booleans.ensures.back items (many ∙ sym c.read_flags.auto.has)
    (back.2 ∙ ap (boolean_bytes items) (sym back.1)) in (
      refl,
      back.1,
      λ some. inner.1 (ap some_has back.1 ∙ some) ∙ ap (filled (numbers_of items)) back.1,
    )
