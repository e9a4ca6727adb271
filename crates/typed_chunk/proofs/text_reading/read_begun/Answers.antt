use Rattle.std.proofs.Common.{◌≡◌, ◌≤◌, ◌++◌, ◌∙◌, ℕ, List, None, ap, ap₂, arith, drop, length, map}
use Rattle.std.proofs.Common.{refl, subst, sum, sym, take}
use Rattle.std.specs.List.{concat}
use Rattle.std.proofs.lemmas.Bool.{false≢true}
use Rattle.std.proofs.lemmas.List.{length-take-le}
use Rattle.typed_vector.specs.Cells.{rows}
use Rattle.typed_chunk.specs.Texts.{AreSpans, text_bytes}
use Rattle.typed_chunk.specs.TextReading.{offsets_of, rows_fault, with_beginning}
use Rattle.typed_chunk.proofs.BegunLaws.{spans_of}
use Rattle.typed_chunk.proofs.HeadedLaws.{some_not_none}
use Rattle.typed_chunk.proofs.TextReadLaws.{are_read, begun_parts, begun_read, sum_kept, sum_passed}
use Rattle.typed_chunk.proofs.text_reading.read_begun.Goals as goal

are_spans : (tails rest lengths offsets : List ℕ) (size : ℕ) → offsets ≡ offsets_of lengths
    → tails ≡ take size rest → size ≡ sum lengths → size ≤ length rest
    → AreSpans (length tails) offsets
are_spans tails rest lengths offsets size are part is low =
    subst (AreSpans (length tails)) (sym are) (spans_of lengths 0 (length tails)
    (omega (arith, is, ap length part, length-take-le size rest low)))

same_rows : (tails rest lengths offsets : List ℕ) (size : ℕ) → offsets ≡ offsets_of lengths
    → tails ≡ take size rest → size ≡ sum lengths
    → rows tails offsets ≡ rows (take (sum lengths) rest) (offsets_of lengths)
same_rows tails rest lengths offsets size are part is =
    ap₂ (λ (bs os : List ℕ). rows bs os) (part ∙ ap (λ (n : ℕ). take n rest) is) are

pub check_tails-requires-clause-spans : goal.check_tails-requires-clause-spans
check_tails-requires-clause-spans c =
    let lengths = c.read_lengths.new.lengths in
    let rest = c.in_ok-bytes.bytes.now in
    let low = sum_passed (length rest) lengths (sym c.in_ok-size.ensures.fault) in
    are_spans c.front-tails.result.now rest lengths c.write_offsets.new.offsets c.in_ok-size.size
    c.in_ok-size.ensures.offsets c.front-tails.ensures c.in_ok-size.ensures.size
    (omega (arith, low, c.in_ok-size.ensures.size))

pub returns-clause-spans : goal.returns-clause-spans
returns-clause-spans c =
    let lengths = c.read_lengths.new.lengths in
    let rest = c.in_ok-bytes.bytes.now in
    let low = sum_passed (length rest) lengths (sym c.in_ok-size.ensures.fault) in
    are_spans c.front-tails.result.now rest lengths c.write_offsets.new.offsets c.in_ok-size.size
    c.in_ok-size.ensures.offsets c.front-tails.ensures c.in_ok-size.ensures.size
    (omega (arith, low, c.in_ok-size.ensures.size))

pub returns-clause-ok : goal.returns-clause-ok
returns-clause-ok c =
    let start = c.args.start.now in
    let has = c.args.has.now in
    let lengths = c.read_lengths.new.lengths in
    let offsets = c.write_offsets.new.offsets in
    let rest = c.in_ok-bytes.bytes.now in
    let size = c.in_ok-size.size in
    let low = sum_passed (length rest) lengths (sym c.in_ok-size.ensures.fault) in
    let enough : size ≤ length rest = omega (arith, low, c.in_ok-size.ensures.size) in
    let none : rows_fault (length start) (rows (take size rest) offsets) has ≡ None =
    sym (c.in_ok-check_tails.ensures
    ∙ ap (λ (bs : List ℕ). rows_fault (length start) (rows bs offsets) has)
    c.front-tails.ensures) in
    begun_read start has c.args.bytes.now lengths rest offsets size c.requires.low
    c.requires.some (c.read_lengths.auto.lengths ∙ c.requires.room) c.in_ok-bytes.ensures.ok
    c.in_ok-size.ensures.size enough c.in_ok-size.ensures.offsets none
    ∙ ap₂ (λ (bs xs : List ℕ). text_bytes (with_beginning start (rows bs offsets) has) has ++ xs)
    (sym c.front-tails.ensures) (sym c.behind-rest.ensures)

pub returns-in_err-bytes-clause-back : goal.returns-in_err-bytes-clause-back
returns-in_err-bytes-clause-back c = λ items rest many blank is.
    let p = begun_parts c.args.start.now items c.args.has.now c.args.bytes.now rest
    c.requires.some c.requires.short many blank is in
    let back = c.in_err-bytes.ensures.back (map length p.behind) (concat p.behind ++ rest)
    (p.many ∙ sym c.requires.room) p.some p.fit p.front in
    absurd (false≢true back.0)

pub returns-in_err-size-clause-back : goal.returns-in_err-size-clause-back
returns-in_err-size-clause-back c = λ items rest many blank is.
    let p = begun_parts c.args.start.now items c.args.has.now c.args.bytes.now rest
    c.requires.some c.requires.short many blank is in
    let lengths = c.read_lengths.new.lengths in
    let behind = c.in_ok-bytes.bytes.now in
    let back = c.in_ok-bytes.ensures.back (map length p.behind) (concat p.behind ++ rest)
    (p.many ∙ sym c.requires.room) p.some p.fit p.front in
    let r = are_read p.behind rest lengths behind back.1 back.2 in
    absurd (some_not_none (c.in_err-size.ensures.fault
    ∙ sum_kept (length behind) lengths r.enough))

pub returns-in_err-check_tails-clause-back : goal.returns-in_err-check_tails-clause-back
returns-in_err-check_tails-clause-back c = λ items rest many blank is.
    let start = c.args.start.now in
    let has = c.args.has.now in
    let p = begun_parts start items has c.args.bytes.now rest c.requires.some c.requires.short
    many blank is in
    let lengths = c.read_lengths.new.lengths in
    let behind = c.in_ok-bytes.bytes.now in
    let back = c.in_ok-bytes.ensures.back (map length p.behind) (concat p.behind ++ rest)
    (p.many ∙ sym c.requires.room) p.some p.fit p.front in
    let r = are_read p.behind rest lengths behind back.1 back.2 in
    let same = same_rows c.front-tails.result.now behind lengths c.write_offsets.new.offsets
    c.in_ok-size.size c.in_ok-size.ensures.offsets c.front-tails.ensures
    c.in_ok-size.ensures.size ∙ r.same in
    absurd (some_not_none (c.in_err-check_tails.ensures
    ∙ ap (λ (ts : List (List ℕ)). rows_fault (length start) ts has) same ∙ p.none))

pub returns-clause-back : goal.returns-clause-back
returns-clause-back c = λ items rest many blank is.
    let start = c.args.start.now in
    let has = c.args.has.now in
    let p = begun_parts start items has c.args.bytes.now rest c.requires.some c.requires.short
    many blank is in
    let lengths = c.read_lengths.new.lengths in
    let behind = c.in_ok-bytes.bytes.now in
    let back = c.in_ok-bytes.ensures.back (map length p.behind) (concat p.behind ++ rest)
    (p.many ∙ sym c.requires.room) p.some p.fit p.front in
    let r = are_read p.behind rest lengths behind back.1 back.2 in
    let same = same_rows c.front-tails.result.now behind lengths c.write_offsets.new.offsets
    c.in_ok-size.size c.in_ok-size.ensures.offsets c.front-tails.ensures
    c.in_ok-size.ensures.size ∙ r.same in (
      refl,
      (
        ap (λ (ts : List (List ℕ)). with_beginning start ts has) same ∙ p.whole,
        c.behind-rest.ensures ∙ ap (λ (n : ℕ). drop n behind) c.in_ok-size.ensures.size ∙ r.left,
      ),
    )

pub returns-clause-form : goal.returns-clause-form
returns-clause-form c =
    record { low = c.requires.low; form = sym c.in_ok-check_tails.ensures }
