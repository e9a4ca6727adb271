use Rattle.std.proofs.Common.{◌≡◌, ◌<◌, ◌++◌, ◌∙◌, List, ℕ, ap, ap₂, arith, length, map, replicate}
use Rattle.std.proofs.Common.{rules, subst, sym, true}
use Rattle.typed_chunk.specs.Dictionary.{dictionary_bytes}
use Rattle.typed_chunk.specs.TextChunk.{places_among, row_entries}
use Rattle.typed_chunk.specs.TextReading.{AreBegun}
use Rattle.typed_chunk.proofs.SpanLaws.{many_spans}
use Rattle.typed_chunk.proofs.TextChunkLaws.{row_dictionary, some_places}
use Rattle.typed_chunk.proofs.TextChunkReadLaws.{begun_entries, front_never, front_shorter}
use Rattle.typed_chunk.proofs.text_chunk_reading.coded_shorter.Goals as goal
use Rattle.typed_vector.specs.Cells.{rows}

pub returns-in_default : goal.returns-in_default
returns-in_default c =
    let tails = rows c.args.tails.now c.args.offsets.now in
    let has = c.args.has.now in
    let many : length tails ≡ length has = omega (
      arith,
      many_spans c.args.tails.now c.args.offsets.now c.requires.spans,
      c.requires.many,
    ) in
    let entries = row_entries tails has in
    let more : 256 < length entries =
    c.in_ok-entries.ensures.none (search rules) entries (places_among entries tails has)
    (row_dictionary tails has many c.requires.some) in
    sym (front_never c.args.start.now tails has many c.requires.some more)

pub coded_size-requires-clause-some : goal.coded_size-requires-clause-some
coded_size-requires-clause-some c =
    let tails = rows c.args.tails.now c.args.offsets.now in
    let entries = rows c.in-Some.entries.texts.items c.in-Some.entries.offsets.items in
    let many : length tails ≡ length c.args.has.now = omega (
      arith,
      many_spans c.args.tails.now c.args.offsets.now c.requires.spans,
      c.requires.many,
    ) in
    omega (
      arith,
      many_spans c.in-Some.entries.texts.items c.in-Some.entries.offsets.items
          (rw c.in-Some.is at c.in_ok-entries.ensures.spans),
      some_places tails entries c.find_dictionary.new.places c.args.has.now many c.requires.some
          (rw c.in-Some.is at c.in_ok-entries.ensures.dictionary),
      ap length c.deref-2.ensures.value,
    )

pub coded_size-requires-clause-most : goal.coded_size-requires-clause-most
coded_size-requires-clause-most c =
    omega (
      arith,
      many_spans c.in-Some.entries.texts.items c.in-Some.entries.offsets.items
          (rw c.in-Some.is at c.in_ok-entries.ensures.spans),
      (rw c.in-Some.is at c.in_ok-entries.ensures.most),
      ap length c.deref-2.ensures.value,
    )

pub coded_size-requires-clause-form : goal.coded_size-requires-clause-form
coded_size-requires-clause-form c =
    let start = c.args.start.now in
    let tails = rows c.args.tails.now c.args.offsets.now in
    let bytes = c.in-Some.entries.texts.items in
    let ends = c.in-Some.entries.offsets.items in
    let many : length tails ≡ length c.args.has.now = omega (
      arith,
      many_spans c.args.tails.now c.args.offsets.now c.requires.spans,
      c.requires.many,
    ) in
    let begun = begun_entries start tails (rows bytes ends) c.find_dictionary.new.places
    c.args.has.now many c.requires.some c.requires.form
    (rw c.in-Some.is at c.in_ok-entries.ensures.dictionary) in
    subst (λ (b : List ℕ). AreBegun start (rows b c.deref-2.result.now)
    (replicate (length (rows b c.deref-2.result.now)) true)) (sym c.deref.ensures.value)
    (subst (λ (os : List ℕ). AreBegun start (rows bytes os)
    (replicate (length (rows bytes os)) true)) (sym c.deref-2.ensures.value) begun)

pub returns : goal.returns
returns c =
    let start = c.args.start.now in
    let tails = rows c.args.tails.now c.args.offsets.now in
    let entries = rows c.in-Some.entries.texts.items c.in-Some.entries.offsets.items in
    let places = c.find_dictionary.new.places in
    let many : length tails ≡ length c.args.has.now = omega (
      arith,
      many_spans c.args.tails.now c.args.offsets.now c.requires.spans,
      c.requires.many,
    ) in
    front_shorter start tails entries places c.args.has.now c.coded_size.result c.args.size many
    c.requires.some (rw c.in-Some.is at c.in_ok-entries.ensures.dictionary)
    (rw c.in-Some.is at c.in_ok-entries.ensures.most)
    (c.coded_size.ensures
    ∙ ap₂ (λ (b os : List ℕ).
    length (dictionary_bytes (map (λ text. start ++ text) (rows b os)) places))
    c.deref.ensures.value c.deref-2.ensures.value) c.requires.long
