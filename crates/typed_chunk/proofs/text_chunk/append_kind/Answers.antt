use Rattle.std.proofs.Common.{◌≡◌, ◌++◌, ◌∷◌, ◌∙◌, List, ap, ap₂, arith, length, sym, ℕ}
use Rattle.typed_chunk.specs.Dictionary.{dictionary_bytes}
use Rattle.typed_chunk.proofs.SpanLaws.{many_spans}
use Rattle.typed_chunk.proofs.TextChunkLaws.{coded_kind, places_inside, some_places}
use Rattle.typed_chunk.proofs.text_chunk.append_kind.Goals as goal
use Rattle.typed_vector.specs.Cells.{rows}

pub append_coded-requires-clause-some : goal.append_coded-requires-clause-some
append_coded-requires-clause-some c =
    let texts = rows c.args.texts.now c.args.offsets.now in
    let entries = rows c.in-Some.entries.texts.items c.in-Some.entries.offsets.items in
    let many : length texts ≡ length c.args.has.now = omega (
      arith,
      many_spans c.args.texts.now c.args.offsets.now c.requires.texts.spans,
      c.requires.texts.many,
    ) in
    omega (
      arith,
      many_spans c.in-Some.entries.texts.items c.in-Some.entries.offsets.items
          (rw c.in-Some.is at c.in_ok-entries.ensures.spans),
      some_places texts entries c.shorter_dictionary.new.codes c.args.has.now many
          c.requires.some (rw c.in-Some.is at c.in_ok-entries.ensures.dictionary),
      ap length c.deref-in-Some.ensures.value,
    )

pub append_coded-requires-clause-most : goal.append_coded-requires-clause-most
append_coded-requires-clause-most c =
    omega (
      arith,
      many_spans c.in-Some.entries.texts.items c.in-Some.entries.offsets.items
          (rw c.in-Some.is at c.in_ok-entries.ensures.spans),
      (rw c.in-Some.is at c.in_ok-entries.ensures.most),
      ap length c.deref-in-Some.ensures.value,
    )

pub append_coded-requires-clause-inside : goal.append_coded-requires-clause-inside
append_coded-requires-clause-inside c = λ k d inside.
    let texts = rows c.args.texts.now c.args.offsets.now in
    let entries = rows c.in-Some.entries.texts.items c.in-Some.entries.offsets.items in
    let low = places_inside texts entries c.shorter_dictionary.new.codes c.args.has.now
    (rw c.in-Some.is at c.in_ok-entries.ensures.dictionary) k d inside in
    omega (
      arith,
      low,
      many_spans c.in-Some.entries.texts.items c.in-Some.entries.offsets.items
          (rw c.in-Some.is at c.in_ok-entries.ensures.spans),
      ap length c.deref-in-Some.ensures.value,
    )

pub returns-in-Some-clause-ok : goal.returns-in-Some-clause-ok
returns-in-Some-clause-ok c =
    let texts = rows c.args.texts.now c.args.offsets.now in
    let entries = rows c.in-Some.entries.texts.items c.in-Some.entries.offsets.items in
    let many : length texts ≡ length c.args.has.now = omega (
      arith,
      many_spans c.args.texts.now c.args.offsets.now c.requires.texts.spans,
      c.requires.texts.many,
    ) in
    c.in_ok-append_coded.ensures.ok
    ∙ ap₂ (λ (b os : List ℕ). c.args.out.now.items
    ++ 2 ∷ dictionary_bytes (rows b os) c.shorter_dictionary.new.codes)
    c.deref.ensures.value c.deref-in-Some.ensures.value
    ∙ ap (λ (bs : List ℕ). c.args.out.now.items ++ bs)
    (coded_kind texts entries c.shorter_dictionary.new.codes c.args.has.now many
    c.requires.some (rw c.in-Some.is at c.in_ok-entries.ensures.dictionary)
    (sym (rw c.in-Some.is at c.in_ok-entries.ensures.shorter)))
