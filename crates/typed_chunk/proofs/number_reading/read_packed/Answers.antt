use Rattle.std.proofs.Common.{◌≡◌, ◌∙◌, Err, ap, length, refl, rules, sym, None, Some}
use Rattle.std.specs.Int.{w64}
use Rattle.std.specs.Prelude.{Option}
use Rattle.std.proofs.lemmas.Bool.{false≢true}
use Rattle.typed_chunk.specs.Flags.{all_have}
use Rattle.typed_chunk.specs.Frame.{frame_fault, frame_values}
use Rattle.typed_chunk.specs.Headed.{first_fault}
use Rattle.typed_chunk.specs.NumberChunk.{rises_shorter}
use Rattle.typed_chunk.specs.NumberReading.{heights_set, packed_fault}
use Rattle.typed_chunk.specs.Places.{are_zeros}
use Rattle.typed_chunk.specs.declared.fault.ChunkFault.{ChunkFault}
use Rattle.typed_chunk.proofs.HeadedLaws.{some_not_none}
use Rattle.typed_chunk.proofs.NumberReadLaws.{filled_zeros, packed_kept, packed_passed}
use Rattle.typed_chunk.proofs.NumberReadLaws.{zeros_filled}
use Rattle.typed_chunk.proofs.number_reading.read_packed.Goals as goal
use Rattle.std.proofs.Common.{ℕ, arith, Bool, List, ℤ}
use Rattle.typed_chunk.specs.NumberReading.{IsPacked}

kept : (has : List Bool) (items : List ℤ) (bytes : List ℕ) → length items ≡ length has
    → IsPacked has items bytes → packed_fault has items ≡ None
kept has items bytes many are =
    packed_kept has items (are_zeros (heights_set items has) has)
    (rises_shorter (all_have has) items) refl (filled_zeros items has many are.unset) refl
    are.shortest

pub returns-in_err-read_frame-clause-fault : goal.returns-in_err-read_frame-clause-fault
returns-in_err-read_frame-clause-fault c =
    let has = c.args.has.now in
    let bytes = c.args.bytes.now in
    let handed : c.from_residual.result ≡ Err c.in_err-read_frame.field-0.0 = search rules in
    let is : Some c.in_err-read_frame.field-0.0 ≡ frame_fault w64 (length has) bytes =
    c.in_err-read_frame.ensures.fault ∙ ap (λ (n : ℕ). frame_fault w64 n bytes) c.requires.rows in
    rw handed (ap (λ (f : Option ChunkFault). first_fault f
    (packed_fault has (frame_values w64 (length has) bytes))) is)

pub returns-in_err-read_frame-clause-back : goal.returns-in_err-read_frame-clause-back
returns-in_err-read_frame-clause-back c = λ items many fit are.
    absurd (false≢true (c.in_err-read_frame.ensures.back items (many ∙ sym c.requires.rows) fit
    are.bytes_of).0)

pub returns-in_err-check_packed-clause-fault : goal.returns-in_err-check_packed-clause-fault
returns-in_err-check_packed-clause-fault c =
    let has = c.args.has.now in
    let bytes = c.args.bytes.now in
    let handed : c.from_residual-in_err-check_packed.result
    ≡ Err c.in_err-check_packed.field-0.0 = search rules in
    let none : None ≡ frame_fault w64 (length has) bytes =
    c.in_ok-read_frame.ensures.fault ∙ ap (λ (n : ℕ). frame_fault w64 n bytes) c.requires.rows in
    rw handed (c.in_err-check_packed.ensures
    ∙ ap (packed_fault has) (c.in_ok-read_frame.ensures.told
    ∙ ap (λ (n : ℕ). frame_values w64 n bytes) c.requires.rows)
    ∙ ap (λ (f : Option ChunkFault). first_fault f
    (packed_fault has (frame_values w64 (length has) bytes))) none)

pub returns-in_err-check_packed-clause-back : goal.returns-in_err-check_packed-clause-back
returns-in_err-check_packed-clause-back c = λ items many fit are.
    let has = c.args.has.now in
    let bytes = c.args.bytes.now in
    let back = c.in_ok-read_frame.ensures.back items (many ∙ sym c.requires.rows) fit
    are.bytes_of in
    absurd (some_not_none (c.in_err-check_packed.ensures ∙ ap (packed_fault has) back.1
    ∙ kept has items bytes many are))

pub returns-clause-fault : goal.returns-clause-fault
returns-clause-fault c =
    let has = c.args.has.now in
    let bytes = c.args.bytes.now in
    let none : None ≡ frame_fault w64 (length has) bytes =
    c.in_ok-read_frame.ensures.fault ∙ ap (λ (n : ℕ). frame_fault w64 n bytes) c.requires.rows in
    c.in_ok-check_packed.ensures
    ∙ ap (packed_fault has) (c.in_ok-read_frame.ensures.told
    ∙ ap (λ (n : ℕ). frame_values w64 n bytes) c.requires.rows)
    ∙ ap (λ (f : Option ChunkFault). first_fault f
    (packed_fault has (frame_values w64 (length has) bytes))) none

pub returns-clause-ok : goal.returns-clause-ok
returns-clause-ok c =
    let has = c.args.has.now in
    let values = c.read_frame.new.values in
    let many : length values ≡ length has =
    omega (arith, c.requires.rows, c.read_frame.auto.values) in
    let passed = packed_passed has values (sym c.in_ok-check_packed.ensures) in
    record {
      bytes_of = c.in_ok-read_frame.ensures.ok;
      unset = zeros_filled values has many passed.0;
      shortest = passed.1;
    }

pub returns-clause-back : goal.returns-clause-back
returns-clause-back c = λ items many fit are. (
  refl,
  (c.in_ok-read_frame.ensures.back items (many ∙ sym c.requires.rows) fit
      are.bytes_of).1,
)
