use Rattle.std.proofs.Common.{◌≡◌, ◌<◌, ◌∙◌, [], List, ℕ, ap, arith, get_or, length, refl}
use Rattle.std.proofs.Common.{rules, subst, sym}
use Rattle.std.specs.List.{concat}
use Rattle.typed_chunk.specs.Entries.{IsPlaceOf, entries_of}
use Rattle.typed_chunk.specs.Places.{texts_ascend}
use Rattle.typed_chunk.proofs.EntryLaws.{ascend-fold}
use Rattle.typed_chunk.proofs.FoundLaws.{dictionary_from, entry_there, one_dictionary, one_list}
use Rattle.typed_chunk.proofs.FoundLaws.{some_entries}
use Rattle.typed_chunk.proofs.GatherLaws.{entry_bytes_few}
use Rattle.typed_chunk.proofs.SearchLaws.{texts_of}
use Rattle.typed_chunk.proofs.SpanLaws.{many_spans}
use Rattle.typed_chunk.proofs.found.find_dictionary.Goals as goal
use Rattle.typed_vector.specs.Cells.{rows}
use Rattle.typed_vector.specs.ZoneMap.{set_values}

pub returns-in_default-clause-none : goal.returns-in_default-clause-none
returns-in_default-clause-none c = λ _ others items is.
    let texts = rows c.args.texts.now c.args.offsets.now in
    let has = c.args.has.now in
    let many : 256 < length (entries_of (set_values texts has)) =
    c.in_ok-entries.ensures.none (search rules) in
    omega (arith, many, ap length (one_dictionary texts others items has is))

pub write_places-requires-clause-ascend : goal.write_places-requires-clause-ascend
write_places-requires-clause-ascend c =
    let set = set_values (rows c.args.texts.now c.args.offsets.now) c.args.has.now in
    let found : texts_of c.in-Some.entries.items ≡ entries_of set =
    rw c.in-Some.is at c.in_ok-entries.ensures.some in
    ap texts_ascend (ap texts_of c.deref.ensures.value ∙ found) ∙ ascend-fold [] set refl

pub write_places-requires-clause-there : goal.write_places-requires-clause-there
write_places-requires-clause-there c = λ index low is.
    let texts = rows c.args.texts.now c.args.offsets.now in
    let has = c.args.has.now in
    let many : length texts ≡ length has = omega (
      arith,
      many_spans c.args.texts.now c.args.offsets.now c.requires.spans,
      c.requires.many,
    ) in
    let found : texts_of c.in-Some.entries.items ≡ entries_of (set_values texts has) =
    rw c.in-Some.is at c.in_ok-entries.ensures.some in
    entry_there texts (texts_of c.deref.result.now) has index
    (ap texts_of c.deref.ensures.value ∙ found) many low is

pub returns-clause-dictionary : goal.returns-clause-dictionary
returns-clause-dictionary c =
    let texts = rows c.args.texts.now c.args.offsets.now in
    let has = c.args.has.now in
    let entries = rows c.in_ok-gather.field-0.texts.items c.in_ok-gather.field-0.offsets.items in
    let many : length texts ≡ length has = omega (
      arith,
      many_spans c.args.texts.now c.args.offsets.now c.requires.spans,
      c.requires.many,
    ) in
    let found : texts_of c.in-Some.entries.items ≡ entries_of (set_values texts has) =
    rw c.in-Some.is at c.in_ok-entries.ensures.some in
    let gathered : entries ≡ texts_of c.in-Some.entries.items =
    c.in_ok-gather.ensures.rows ∙ ap texts_of c.deref-2.ensures.value in
    let first : texts_of c.deref.result.now ≡ entries =
    ap texts_of c.deref.ensures.value ∙ sym gathered in
    dictionary_from texts entries c.write_places.new.places has many
    (omega (arith, c.write_places.auto.places, c.requires.room))
    (omega (arith, ap length (gathered ∙ found), some_entries texts has many c.requires.some))
    (gathered ∙ found)
    (λ i low set.
    subst (λ (es : List (List ℕ)). IsPlaceOf es (get_or texts i [])
    (get_or c.write_places.new.places i 0)) first
    (c.write_places.ensures.set i low set))
    c.write_places.ensures.unset

pub returns-clause-short : goal.returns-clause-short
returns-clause-short c =
    let b = c.args.texts.now in
    let offsets = c.args.offsets.now in
    let has = c.args.has.now in
    let found : texts_of c.in-Some.entries.items ≡ entries_of (set_values (rows b offsets) has) =
    rw c.in-Some.is at c.in_ok-entries.ensures.some in
    omega (
      arith,
      ap length (c.in_ok-gather.ensures.bytes
          ∙ ap concat (ap texts_of c.deref-2.ensures.value ∙ found)),
      entry_bytes_few b offsets has c.requires.spans,
    )

pub returns-clause-one : goal.returns-clause-one
returns-clause-one c = λ others items is.
    one_list (rows c.args.texts.now c.args.offsets.now)
    (rows c.in_ok-gather.field-0.texts.items c.in_ok-gather.field-0.offsets.items) others
    c.write_places.new.places items c.args.has.now (returns-clause-dictionary c) is
