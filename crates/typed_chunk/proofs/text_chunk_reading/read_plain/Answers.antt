use Rattle.std.proofs.Common.{◌≡◌, ◌∙◌, ℕ, [], Err, List, None, Some, ap, arith, length}
use Rattle.std.proofs.Common.{length-append, refl, rules, sym, true}
use Rattle.std.proofs.lemmas.Bool.{false≢true}
use Rattle.typed_chunk.specs.TextChunk.{dictionary_shorter}
use Rattle.typed_chunk.specs.TextReading.{with_beginning}
use Rattle.typed_chunk.specs.Texts.{text_bytes}
use Rattle.typed_chunk.specs.declared.fault.ChunkFault.TheVariants.{WrongLength}
use Rattle.typed_chunk.specs.declared.fault.ReadError.TheVariants.{OutOfMemory, Refused}
use Rattle.typed_chunk.proofs.FlagReadLaws.{some_bytes}
use Rattle.typed_chunk.proofs.TextChunkReadLaws.{empty_bytes, from_plain, more_fault, no_fault}
use Rattle.typed_chunk.proofs.TextChunkReadLaws.{plain_fault, plain_kind, short_fault}
use Rattle.typed_chunk.proofs.text_chunk_reading.read_plain.Goals as goal
use Rattle.typed_vector.specs.Cells.{rows}

pub returns-in_err-read-clause-fault : goal.returns-in_err-read-clause-fault
returns-in_err-read-clause-fault c =
    let handed : c.from_residual.result ≡ Err (Refused c.in_err-read.field-0.0) = search rules in
    rw handed (record {
      texts = λ first e. c.in_err-read.ensures.fault ∙ e;
      whole = λ texts rest many blank is.
          absurd (false≢true (c.in_err-read.ensures.back texts rest many blank is).0);
    })

pub returns-in_err-read-clause-back : goal.returns-in_err-read-clause-back
returns-in_err-read-clause-back c = λ items many blank is.
    let p = from_plain items c.args.has.now 0 c.args.bytes.now refl is in
    absurd (false≢true (c.in_err-read.ensures.back items [] many blank p.1).0)

pub returns-then-not-is_empty-clause-fault : goal.returns-then-not-is_empty-clause-fault
returns-then-not-is_empty-clause-fault c =
    let has = c.args.has.now in
    let read = c.in_ok-read.read in
    let whole = with_beginning read.start.now (rows read.tails.now c.read_texts.new.offsets) has in
    let some = some_bytes read.rest.now c.is_empty.result c.is_empty.ensures (search rules) in
    plain_fault has c.args.bytes.now whole read.rest.now (Some WrongLength)
    c.in_ok-read.ensures.fault
    (λ texts behind many blank is. (c.in_ok-read.ensures.back texts behind many blank is).1)
    (sym (more_fault whole has read.rest.now some))

pub returns-then-not-is_empty-clause-back : goal.returns-then-not-is_empty-clause-back
returns-then-not-is_empty-clause-back c = λ items many blank is.
    let read = c.in_ok-read.read in
    let some = some_bytes read.rest.now c.is_empty.result c.is_empty.ensures (search rules) in
    let p = from_plain items c.args.has.now 0 c.args.bytes.now refl is in
    let back = (c.in_ok-read.ensures.back items [] many blank p.1).1 in
    absurd (omega (arith, some, ap length back.1))

pub coded_shorter-requires-clause-long : goal.coded_shorter-requires-clause-long
coded_shorter-requires-clause-long c =
    let has = c.args.has.now in
    let read = c.in_ok-read.read in
    let whole = with_beginning read.start.now (rows read.tails.now c.read_texts.new.offsets) has in
    let none = empty_bytes read.rest.now c.is_empty.result c.is_empty.ensures (search rules) in
    omega (
      arith,
      ap length c.in_ok-read.ensures.ok,
      length-append (text_bytes whole has) read.rest.now,
      ap length none,
    )

pub returns-in_err-shorter-clause-fault : goal.returns-in_err-shorter-clause-fault
returns-in_err-shorter-clause-fault c =
    let handed : c.from_residual-in_err-shorter.result ≡ Err OutOfMemory = search rules in
    rw handed tt

pub returns-in_err-shorter-clause-back : goal.returns-in_err-shorter-clause-back
returns-in_err-shorter-clause-back c = λ items many blank is.
    let handed : c.from_residual-in_err-shorter.result ≡ Err OutOfMemory = search rules in
    rw handed (tt, tt)

pub returns-then-shorter-clause-fault : goal.returns-then-shorter-clause-fault
returns-then-shorter-clause-fault c =
    let has = c.args.has.now in
    let read = c.in_ok-read.read in
    let whole = with_beginning read.start.now (rows read.tails.now c.read_texts.new.offsets) has in
    let none = empty_bytes read.rest.now c.is_empty.result c.is_empty.ensures (search rules) in
    plain_fault has c.args.bytes.now whole read.rest.now _ c.in_ok-read.ensures.fault
    (λ texts behind many blank is. (c.in_ok-read.ensures.back texts behind many blank is).1)
    (short_fault whole has read.rest.now c.in_ok-shorter.shorter none c.in_ok-shorter.ensures
    (search rules))

pub returns-then-shorter-clause-back : goal.returns-then-shorter-clause-back
returns-then-shorter-clause-back c = λ items many blank is.
    let has = c.args.has.now in
    let p = from_plain items has 0 c.args.bytes.now refl is in
    let back = (c.in_ok-read.ensures.back items [] many blank p.1).1 in
    let holds : c.in_ok-shorter.shorter ≡ true = search rules in
    absurd (false≢true (sym (sym holds ∙ c.in_ok-shorter.ensures
    ∙ ap (λ (ts : List (List ℕ)). dictionary_shorter ts has) back.0 ∙ p.0)))

pub returns-clause-fault : goal.returns-clause-fault
returns-clause-fault c =
    let has = c.args.has.now in
    let read = c.in_ok-read.read in
    let whole = with_beginning read.start.now (rows read.tails.now c.read_texts.new.offsets) has in
    let none = empty_bytes read.rest.now c.is_empty.result c.is_empty.ensures (search rules) in
    plain_fault has c.args.bytes.now whole read.rest.now None c.in_ok-read.ensures.fault
    (λ texts behind many blank is. (c.in_ok-read.ensures.back texts behind many blank is).1)
    (no_fault whole has read.rest.now c.in_ok-shorter.shorter none c.in_ok-shorter.ensures
    (search rules))

pub returns-clause-ok : goal.returns-clause-ok
returns-clause-ok c =
    let has = c.args.has.now in
    let read = c.in_ok-read.read in
    let whole = with_beginning read.start.now (rows read.tails.now c.read_texts.new.offsets) has in
    let none = empty_bytes read.rest.now c.is_empty.result c.is_empty.ensures (search rules) in
    plain_kind whole has c.args.bytes.now read.rest.now c.in_ok-shorter.shorter none
    c.in_ok-read.ensures.ok c.in_ok-shorter.ensures (search rules)

pub returns-clause-back : goal.returns-clause-back
returns-clause-back c = λ items many blank is.
    let p = from_plain items c.args.has.now 0 c.args.bytes.now refl is in
    (refl, (c.in_ok-read.ensures.back items [] many blank p.1).1.0)
