use Rattle.std.proofs.Common.{◌≡◌, ◌<◌, ◌∙◌, ap, arith, length, lt-ltb, le-ltb, rules, sym}
use Rattle.typed_chunk.specs.TextChunk.{places_among, row_entries}
use Rattle.typed_chunk.proofs.SpanLaws.{many_spans}
use Rattle.typed_chunk.proofs.TextChunkLaws.{never_shorter, row_dictionary, shorter_as}
use Rattle.typed_chunk.proofs.TextChunkLaws.{some_places}
use Rattle.typed_chunk.proofs.text_kinds.shorter_dictionary.Goals as goal
use Rattle.typed_vector.specs.Cells.{rows}

pub returns-in_default-clause-shorter : goal.returns-in_default-clause-shorter
returns-in_default-clause-shorter c =
    let texts = rows c.args.texts.now c.args.offsets.now in
    let has = c.args.has.now in
    let many : length texts ≡ length has = omega (
      arith,
      many_spans c.args.texts.now c.args.offsets.now c.requires.spans,
      c.requires.many,
    ) in
    let entries = row_entries texts has in
    let more : 256 < length entries =
    c.in_ok-entries.ensures.none (search rules) entries (places_among entries texts has)
    (row_dictionary texts has many c.requires.some) in
    sym (never_shorter texts has more)

pub dictionary_size-requires-clause-some : goal.dictionary_size-requires-clause-some
dictionary_size-requires-clause-some c =
    let texts = rows c.args.texts.now c.args.offsets.now in
    let entries = rows c.in-Some.entries.texts.items c.in-Some.entries.offsets.items in
    let many : length texts ≡ length c.args.has.now = omega (
      arith,
      many_spans c.args.texts.now c.args.offsets.now c.requires.spans,
      c.requires.many,
    ) in
    omega (
      arith,
      many_spans c.in-Some.entries.texts.items c.in-Some.entries.offsets.items
          (rw c.in-Some.is at c.in_ok-entries.ensures.spans),
      some_places texts entries c.find_dictionary.new.places c.args.has.now many c.requires.some
          (rw c.in-Some.is at c.in_ok-entries.ensures.dictionary),
      ap length c.deref-2.ensures.value,
    )

pub dictionary_size-requires-clause-most : goal.dictionary_size-requires-clause-most
dictionary_size-requires-clause-most c =
    omega (
      arith,
      many_spans c.in-Some.entries.texts.items c.in-Some.entries.offsets.items
          (rw c.in-Some.is at c.in_ok-entries.ensures.spans),
      (rw c.in-Some.is at c.in_ok-entries.ensures.most),
      ap length c.deref-2.ensures.value,
    )

pub returns-then-dictionary_size-size-clause-shorter :
    goal.returns-then-dictionary_size-size-clause-shorter
returns-then-dictionary_size-size-clause-shorter c =
    let texts = rows c.args.texts.now c.args.offsets.now in
    let entries = rows c.in-Some.entries.texts.items c.in-Some.entries.offsets.items in
    let many : length texts ≡ length c.args.has.now = omega (
      arith,
      many_spans c.args.texts.now c.args.offsets.now c.requires.spans,
      c.requires.many,
    ) in
    sym (lt-ltb c.dictionary_size.result c.texts_size-size.result c.if-dictionary_size-size.true)
    ∙ shorter_as texts entries c.find_dictionary.new.places c.args.has.now
    c.dictionary_size.result c.texts_size-size.result many c.requires.some
    (rw c.in-Some.is at c.in_ok-entries.ensures.dictionary)
    (rw c.in-Some.is at c.in_ok-entries.ensures.most)
    (search rules) c.texts_size-size.ensures.is

pub returns-clause-shorter : goal.returns-clause-shorter
returns-clause-shorter c =
    let texts = rows c.args.texts.now c.args.offsets.now in
    let entries = rows c.in-Some.entries.texts.items c.in-Some.entries.offsets.items in
    let many : length texts ≡ length c.args.has.now = omega (
      arith,
      many_spans c.args.texts.now c.args.offsets.now c.requires.spans,
      c.requires.many,
    ) in
    sym (le-ltb c.dictionary_size.result c.texts_size-size.result c.if-dictionary_size-size.false)
    ∙ shorter_as texts entries c.find_dictionary.new.places c.args.has.now
    c.dictionary_size.result c.texts_size-size.result many c.requires.some
    (rw c.in-Some.is at c.in_ok-entries.ensures.dictionary)
    (rw c.in-Some.is at c.in_ok-entries.ensures.most)
    (search rules) c.texts_size-size.ensures.is
