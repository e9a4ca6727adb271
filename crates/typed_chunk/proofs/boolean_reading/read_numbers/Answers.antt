use Rattle.std.proofs.Common.{◌≡◌, ◌∙◌, Err, List, None, Some, ap, arith, length, map, pos}
use Rattle.std.proofs.Common.{Bool, refl, rules, sym, ℕ}
use Rattle.std.specs.Prelude.{Option}
use Rattle.std.proofs.lemmas.Bool.{false≢true}
use Rattle.typed_chunk.specs.BooleanChunk.{numbers_fault, numbers_of, unset_least}
use Rattle.typed_chunk.specs.Flags.{rows_of}
use Rattle.typed_chunk.specs.Frame.{frame, naturals_fault, numbers_in, unsigned_word}
use Rattle.typed_chunk.specs.Headed.{first_fault}
use Rattle.typed_chunk.specs.declared.fault.ChunkFault.{ChunkFault}
use Rattle.typed_chunk.proofs.BooleanReadLaws.{boolean_parts, filled_is, numbers_passed}
use Rattle.typed_chunk.proofs.BooleanReadLaws.{rows-numbers}
use Rattle.typed_chunk.proofs.HeadedLaws.{some_not_none}
use Rattle.typed_chunk.proofs.boolean_reading.read_numbers.Goals as goal

pub returns-in_err-read_naturals-clause-fault : goal.returns-in_err-read_naturals-clause-fault
returns-in_err-read_naturals-clause-fault c =
    let has = c.args.has.now in
    let bytes = c.args.bytes.now in
    let handed : c.from_residual.result ≡ Err c.in_err-read_naturals.field-0.0 = search rules in
    let is : Some c.in_err-read_naturals.field-0.0 ≡ naturals_fault 1 (length has) bytes =
    c.in_err-read_naturals.ensures.fault
    ∙ ap (λ (n : ℕ). naturals_fault 1 n bytes) c.requires.room in
    rw handed (ap (λ (f : Option ChunkFault). first_fault f
    (numbers_fault has (numbers_in 1 (length has) bytes))) is)

pub returns-in_err-read_naturals-clause-back : goal.returns-in_err-read_naturals-clause-back
returns-in_err-read_naturals-clause-back c = λ items many is.
    let p = boolean_parts items c.args.has.now c.args.bytes.now many c.requires.some is in
    absurd (false≢true (c.in_err-read_naturals.ensures.back p.numbers (p.many ∙ sym c.requires.room)
    p.fit p.are).0)

pub returns-in_err-check_numbers-clause-fault : goal.returns-in_err-check_numbers-clause-fault
returns-in_err-check_numbers-clause-fault c =
    let has = c.args.has.now in
    let bytes = c.args.bytes.now in
    let handed : c.from_residual-in_err-check_numbers.result
    ≡ Err c.in_err-check_numbers.field-0.0 = search rules in
    let none : None ≡ naturals_fault 1 (length has) bytes =
    c.in_ok-read_naturals.ensures.fault
    ∙ ap (λ (n : ℕ). naturals_fault 1 n bytes) c.requires.room in
    rw handed (c.in_err-check_numbers.ensures
    ∙ ap (numbers_fault has) (c.in_ok-read_naturals.ensures.behind
    ∙ ap (λ (n : ℕ). numbers_in 1 n bytes) c.requires.room)
    ∙ ap (λ (f : Option ChunkFault). first_fault f
    (numbers_fault has (numbers_in 1 (length has) bytes))) none)

pub returns-in_err-check_numbers-clause-back : goal.returns-in_err-check_numbers-clause-back
returns-in_err-check_numbers-clause-back c = λ items many is.
    let has = c.args.has.now in
    let p = boolean_parts items has c.args.bytes.now many c.requires.some is in
    let back = c.in_ok-read_naturals.ensures.back p.numbers (p.many ∙ sym c.requires.room) p.fit
    p.are in
    absurd (some_not_none (c.in_err-check_numbers.ensures ∙ ap (numbers_fault has) back.1 ∙ p.none))

pub returns-clause-fault : goal.returns-clause-fault
returns-clause-fault c =
    let has = c.args.has.now in
    let bytes = c.args.bytes.now in
    let none : None ≡ naturals_fault 1 (length has) bytes =
    c.in_ok-read_naturals.ensures.fault
    ∙ ap (λ (n : ℕ). naturals_fault 1 n bytes) c.requires.room in
    c.in_ok-check_numbers.ensures
    ∙ ap (numbers_fault has) (c.in_ok-read_naturals.ensures.behind
    ∙ ap (λ (n : ℕ). numbers_in 1 n bytes) c.requires.room)
    ∙ ap (λ (f : Option ChunkFault). first_fault f
    (numbers_fault has (numbers_in 1 (length has) bytes))) none

pub returns-clause-ok : goal.returns-clause-ok
returns-clause-ok c =
    let has = c.args.has.now in
    let numbers = c.read_naturals.new.numbers in
    let values = c.write_rows.new.has in
    let p = numbers_passed has numbers (sym c.in_ok-check_numbers.ensures) in
    let same : numbers_of values ≡ map pos numbers =
    ap numbers_of c.write_rows.ensures ∙ rows-numbers numbers p.0 in
    let many : length values ≡ length has =
    omega (arith, c.write_rows.auto.has, c.requires.rows) in
    c.in_ok-read_naturals.ensures.ok.same
    ∙ ap (frame (unsigned_word 1)) (sym same
    ∙ filled_is values has many c.requires.some
    (ap (λ (vs : List Bool). unset_least vs has) c.write_rows.ensures ∙ p.1))

pub returns-clause-back : goal.returns-clause-back
returns-clause-back c = λ items many is.
    let has = c.args.has.now in
    let p = boolean_parts items has c.args.bytes.now many c.requires.some is in
    let back = c.in_ok-read_naturals.ensures.back p.numbers (p.many ∙ sym c.requires.room) p.fit
    p.are in (
      refl,
      ap numbers_of (c.write_rows.ensures ∙ ap rows_of back.1) ∙ p.same,
    )
