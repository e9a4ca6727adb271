use Rattle.std.proofs.Common.{◌≡◌, ◌∙◌, ◌∷◌, ℕ, Err, List, None, Some, ap, ap₂}
use Rattle.std.proofs.Common.{arith, length, le-ltb, lt-ltb, refl, replicate, rules}
use Rattle.std.proofs.Common.{sym, true}
use Rattle.std.specs.Prelude.{nat_lt}
use Rattle.std.proofs.lemmas.Bool.{false≢true}
use Rattle.typed_chunk.specs.TextChunk.{dictionary_shorter, places_among, row_entries, text_kind}
use Rattle.typed_chunk.specs.TextChunkReading.{placed}
use Rattle.typed_chunk.specs.TextReading.{with_beginning}
use Rattle.typed_chunk.specs.declared.fault.ChunkFault.TheVariants.{NotShortestKind}
use Rattle.typed_chunk.specs.declared.fault.ReadError.TheVariants.{Refused}
use Rattle.typed_chunk.proofs.DictionaryLaws.{places_below}
use Rattle.typed_chunk.proofs.SpanLaws.{many_spans}
use Rattle.typed_chunk.proofs.TextChunkLaws.{coded_kind}
use Rattle.typed_chunk.proofs.TextChunkReadLaws.{coded_found, coded_longer, coded_parts}
use Rattle.typed_chunk.proofs.TextChunkReadLaws.{coded_refused, coded_rows, coded_shortest}
use Rattle.typed_chunk.proofs.TextChunkReadLaws.{placed_is}
use Rattle.typed_chunk.proofs.text_chunk_reading.read_entries.Goals as goal
use Rattle.typed_vector.specs.Cells.{rows}

pub returns-in_err-read-clause-fault : goal.returns-in_err-read-clause-fault
returns-in_err-read-clause-fault c =
    let handed : c.from_residual.result ≡ Err (Refused c.in_err-read.field-0.0) = search rules in
    rw handed (coded_refused c.args.has.now c.args.bytes.now (length c.args.all.now)
    c.in_err-read.field-0.0 c.requires.first c.requires.entries c.in_err-read.ensures.texts
    c.in_err-read.ensures.fault
    (λ entries items many each none is.
    false≢true (c.in_err-read.ensures.back entries items many each none is).0))

pub returns-in_err-read-clause-back : goal.returns-in_err-read-clause-back
returns-in_err-read-clause-back c = λ items many blank is.
    let has = c.args.has.now in
    let r = coded_rows items has c.args.bytes.now (length c.args.all.now) many c.requires.some
    c.requires.entries is in
    absurd (false≢true (c.in_err-read.ensures.back (row_entries items has)
    (places_among (row_entries items has) items has) r.size r.is.many r.is.form r.same).0)

pub write_placed-requires-clause-inside : goal.write_placed-requires-clause-inside
write_placed-requires-clause-inside c = λ k d low.
    let read = c.in_ok-read.read in
    let tails = rows read.tails.now c.read_dictionary.new.offsets in
    omega (
      arith,
      places_below tails c.read_dictionary.new.places c.args.has.now c.in_ok-read.ensures.places
          k d low,
      many_spans read.tails.now c.read_dictionary.new.offsets c.in_ok-read.ensures.spans,
    )

pub returns-then-long-size-clause-fault : goal.returns-then-long-size-clause-fault
returns-then-long-size-clause-fault c =
    let has = c.args.has.now in
    let bytes = c.args.bytes.now in
    let read = c.in_ok-read.read in
    let tails = rows read.tails.now c.read_dictionary.new.offsets in
    let places = c.read_dictionary.new.places in
    let count = length c.args.all.now in
    let entries = with_beginning read.start.now tails (replicate count true) in
    let size = c.begun_size-size.result in
    let many : length tails ≡ count = omega (
      arith,
      many_spans read.tails.now c.read_dictionary.new.offsets c.in_ok-read.ensures.spans,
      c.read_dictionary.auto.offsets,
      c.requires.ends,
    ) in
    let parts = coded_parts has bytes read.start.now tails places c.write_placed.new.lengths count
    size many (omega (arith, c.requires.entries))
    (omega (arith, c.requires.entries, c.type_inv.bytes 0))
    (omega (arith, c.read_dictionary.auto.places, c.requires.places)) c.requires.some
    c.in_ok-read.ensures.form c.in_ok-read.ensures.places c.in_ok-read.ensures.ok
    c.write_placed.ensures c.begun_size-size.ensures.is in
    coded_found has bytes count entries places None c.requires.first c.requires.entries
    c.in_ok-read.ensures.texts c.in_ok-read.ensures.fault
    (λ others items each long none is.
    let b = c.in_ok-read.ensures.back others items each long none is in (b.1, b.2))
    (coded_shortest (placed entries places has) has (nat_lt (length bytes) size) parts.shorter
    (lt-ltb (length bytes) size c.if-long-size.true))

pub returns-then-long-size-clause-ok : goal.returns-then-long-size-clause-ok
returns-then-long-size-clause-ok c =
    let has = c.args.has.now in
    let bytes = c.args.bytes.now in
    let read = c.in_ok-read.read in
    let tails = rows read.tails.now c.read_dictionary.new.offsets in
    let places = c.read_dictionary.new.places in
    let count = length c.args.all.now in
    let entries = with_beginning read.start.now tails (replicate count true) in
    let size = c.begun_size-size.result in
    let many : length tails ≡ count = omega (
      arith,
      many_spans read.tails.now c.read_dictionary.new.offsets c.in_ok-read.ensures.spans,
      c.read_dictionary.auto.offsets,
      c.requires.ends,
    ) in
    let parts = coded_parts has bytes read.start.now tails places c.write_placed.new.lengths count
    size many (omega (arith, c.requires.entries))
    (omega (arith, c.requires.entries, c.type_inv.bytes 0))
    (omega (arith, c.read_dictionary.auto.places, c.requires.places)) c.requires.some
    c.in_ok-read.ensures.form c.in_ok-read.ensures.places c.in_ok-read.ensures.ok
    c.write_placed.ensures c.begun_size-size.ensures.is in
    ap (λ (bs : List ℕ). 2 ∷ bs) c.in_ok-read.ensures.ok
    ∙ coded_kind (placed entries places has) entries places has parts.many c.requires.some parts.is
    (sym parts.shorter ∙ lt-ltb (length bytes) size c.if-long-size.true)
    ∙ ap (λ (n : ℕ). text_kind (placed (with_beginning read.start.now tails (replicate n true))
    places has) has) c.requires.entries

pub returns-then-long-size-clause-back : goal.returns-then-long-size-clause-back
returns-then-long-size-clause-back c = λ items many blank is.
    let has = c.args.has.now in
    let read = c.in_ok-read.read in
    let tails = rows read.tails.now c.read_dictionary.new.offsets in
    let places = c.read_dictionary.new.places in
    let entries = row_entries items has in
    let r = coded_rows items has c.args.bytes.now (length c.args.all.now) many c.requires.some
    c.requires.entries is in
    let b = c.in_ok-read.ensures.back entries (places_among entries items has) r.size r.is.many
    r.is.form r.same in (
      refl,
      ap (λ (n : ℕ). placed (with_beginning read.start.now tails (replicate n true)) places has)
          (sym c.requires.entries)
          ∙ ap₂ (λ (es : List (List ℕ)) (ps : List ℕ). placed es ps has) b.2 b.1
          ∙ placed_is items entries (places_among entries items has) has many blank r.is,
    )

pub returns-clause-fault : goal.returns-clause-fault
returns-clause-fault c =
    let has = c.args.has.now in
    let bytes = c.args.bytes.now in
    let read = c.in_ok-read.read in
    let tails = rows read.tails.now c.read_dictionary.new.offsets in
    let places = c.read_dictionary.new.places in
    let count = length c.args.all.now in
    let entries = with_beginning read.start.now tails (replicate count true) in
    let size = c.begun_size-size.result in
    let many : length tails ≡ count = omega (
      arith,
      many_spans read.tails.now c.read_dictionary.new.offsets c.in_ok-read.ensures.spans,
      c.read_dictionary.auto.offsets,
      c.requires.ends,
    ) in
    let parts = coded_parts has bytes read.start.now tails places c.write_placed.new.lengths count
    size many (omega (arith, c.requires.entries))
    (omega (arith, c.requires.entries, c.type_inv.bytes 0))
    (omega (arith, c.read_dictionary.auto.places, c.requires.places)) c.requires.some
    c.in_ok-read.ensures.form c.in_ok-read.ensures.places c.in_ok-read.ensures.ok
    c.write_placed.ensures c.begun_size-size.ensures.is in
    coded_found has bytes count entries places (Some NotShortestKind) c.requires.first
    c.requires.entries c.in_ok-read.ensures.texts c.in_ok-read.ensures.fault
    (λ others items each long none is.
    let b = c.in_ok-read.ensures.back others items each long none is in (b.1, b.2))
    (coded_longer (placed entries places has) has (nat_lt (length bytes) size) parts.shorter
    (le-ltb (length bytes) size c.if-long-size.false))

pub returns-clause-back : goal.returns-clause-back
returns-clause-back c = λ items each blank is.
    let has = c.args.has.now in
    let bytes = c.args.bytes.now in
    let read = c.in_ok-read.read in
    let tails = rows read.tails.now c.read_dictionary.new.offsets in
    let places = c.read_dictionary.new.places in
    let count = length c.args.all.now in
    let size = c.begun_size-size.result in
    let many : length tails ≡ count = omega (
      arith,
      many_spans read.tails.now c.read_dictionary.new.offsets c.in_ok-read.ensures.spans,
      c.read_dictionary.auto.offsets,
      c.requires.ends,
    ) in
    let parts = coded_parts has bytes read.start.now tails places c.write_placed.new.lengths count
    size many (omega (arith, c.requires.entries))
    (omega (arith, c.requires.entries, c.type_inv.bytes 0))
    (omega (arith, c.read_dictionary.auto.places, c.requires.places)) c.requires.some
    c.in_ok-read.ensures.form c.in_ok-read.ensures.places c.in_ok-read.ensures.ok
    c.write_placed.ensures c.begun_size-size.ensures.is in
    let entries = row_entries items has in
    let r = coded_rows items has bytes count each c.requires.some c.requires.entries is in
    let b = c.in_ok-read.ensures.back entries (places_among entries items has) r.size r.is.many
    r.is.form r.same in
    let texts = ap₂ (λ (es : List (List ℕ)) (ps : List ℕ). placed es ps has) b.2 b.1
    ∙ placed_is items entries (places_among entries items has) has each blank r.is in
    absurd (false≢true (sym (le-ltb (length bytes) size c.if-long-size.false) ∙ parts.shorter
    ∙ ap (λ (ts : List (List ℕ)). dictionary_shorter ts has) texts ∙ r.shorter))
