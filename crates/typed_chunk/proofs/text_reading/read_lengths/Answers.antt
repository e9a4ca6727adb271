use Rattle.std.proofs.Common.{◌≡◌, ◌∙◌, ℕ, Err, List, ap, drop, length, map, min, pos, refl, rules}
use Rattle.std.proofs.Common.{subst, sym, take}
use Rattle.std.proofs.lemmas.Bool.{false≢true}
use Rattle.std.proofs.lemmas.List.{take_min}
use Rattle.typed_chunk.specs.Frame.{IsFrame, naturals_fault, unsigned_word}
use Rattle.typed_chunk.specs.TextReading.{behind_frame, frame_before, frame_len}
use Rattle.typed_chunk.proofs.TextReadLaws.{front_parts, front_read}
use Rattle.typed_chunk.proofs.text_reading.read_lengths.Goals as goal

-- The first bytes are the frame that the bytes begin with.
part_is : (count size least : ℕ) (bytes part : List ℕ) → part ≡ take least bytes
    → least ≡ min size (length bytes) → size ≡ frame_len 4 count bytes
    → part ≡ frame_before 4 count bytes
part_is count size least bytes part is low same =
    is ∙ ap (λ (n : ℕ). take n bytes) low ∙ take_min size bytes
    ∙ ap (λ (n : ℕ). take n bytes) same

pub returns-in_err-read_naturals-clause-fault : goal.returns-in_err-read_naturals-clause-fault
returns-in_err-read_naturals-clause-fault c =
    let count = length c.args.lengths.now in
    let handed : c.from_residual.result ≡ Err c.in_err-read_naturals.field-0.0 = search rules in
    let part = part_is count c.frame_len-size.result c.min.result c.args.bytes.now
    c.front.result.now c.front.ensures c.min.ensures c.frame_len-size.ensures in
    rw handed (c.in_err-read_naturals.ensures.fault ∙ ap (naturals_fault 4 count) part)

pub returns-in_err-read_naturals-clause-back : goal.returns-in_err-read_naturals-clause-back
returns-in_err-read_naturals-clause-back c = λ items rest many some fit is.
    let bytes = c.args.bytes.now in
    let part = part_is (length c.args.lengths.now) c.frame_len-size.result c.min.result bytes
    c.front.result.now c.front.ensures c.min.ensures c.frame_len-size.ensures in
    let p = front_parts 4 items rest bytes some is in
    let are : IsFrame (unsigned_word 4) (map pos items) c.front.result.now =
    subst (λ bs. IsFrame (unsigned_word 4) (map pos items) bs)
    (ap (λ (n : ℕ). frame_before 4 n bytes) many ∙ sym part) p.0 in
    let back = c.in_err-read_naturals.ensures.back items many fit are in
    absurd (false≢true back.0)

pub returns-clause-ok : goal.returns-clause-ok
returns-clause-ok c =
    let bytes = c.args.bytes.now in
    let count = length c.args.lengths.now in
    let numbers = c.read_naturals.new.numbers in
    let part = part_is count c.frame_len-size.result c.min.result bytes
    c.front.result.now c.front.ensures c.min.ensures c.frame_len-size.ensures in
    let whole = front_read 4 count numbers bytes
    (subst (λ bs. IsFrame (unsigned_word 4) (map pos numbers) bs) part
    c.in_ok-read_naturals.ensures.ok) in
    let rest : c.behind.result.now ≡ behind_frame 4 count bytes =
    c.behind.ensures ∙ ap (λ (n : ℕ). drop n bytes) c.frame_len-size.ensures in
    rw rest whole

pub returns-clause-back : goal.returns-clause-back
returns-clause-back c = λ items rest many some fit is.
    let bytes = c.args.bytes.now in
    let part = part_is (length c.args.lengths.now) c.frame_len-size.result c.min.result bytes
    c.front.result.now c.front.ensures c.min.ensures c.frame_len-size.ensures in
    let p = front_parts 4 items rest bytes some is in
    let are : IsFrame (unsigned_word 4) (map pos items) c.front.result.now =
    subst (λ bs. IsFrame (unsigned_word 4) (map pos items) bs)
    (ap (λ (n : ℕ). frame_before 4 n bytes) many ∙ sym part) p.0 in
    let back = c.in_ok-read_naturals.ensures.back items many fit are in (
      refl,
      back.1,
      c.behind.ensures ∙ ap (λ (n : ℕ). drop n bytes) c.frame_len-size.ensures
          ∙ ap (λ (n : ℕ). behind_frame 4 n bytes) (sym many) ∙ p.1,
    )
