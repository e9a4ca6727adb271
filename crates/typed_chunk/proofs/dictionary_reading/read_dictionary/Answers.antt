use Rattle.std.proofs.Common.{◌≡◌, ◌-◌, ◌++◌, ◌∷◌, ◌∙◌, ℕ, Bool, Err, List, None, Some}
use Rattle.std.proofs.Common.{ap, ap₂, arith, drop, get_or, length, length-drop, replicate, rules}
use Rattle.std.proofs.Common.{subst, sym, true}
use Rattle.std.specs.Result.{result_err}
use Rattle.std.proofs.lemmas.Bool.{false≢true}
use Rattle.typed_chunk.specs.Dictionary.{dictionary_bytes}
use Rattle.typed_chunk.specs.Flags.{some_has}
use Rattle.typed_chunk.specs.Packed.{bits, least_width, packed}
use Rattle.typed_chunk.specs.Places.{places_fault}
use Rattle.typed_chunk.specs.Texts.{text_bytes}
use Rattle.typed_chunk.specs.TextReading.{AreBegun, are_blank, texts_fault, with_beginning}
use Rattle.typed_chunk.proofs.DictionaryLaws.{all_blank, are_packed, bytes_of, codes_left}
use Rattle.typed_chunk.proofs.DictionaryLaws.{entries_behind, places_front, places_left}
use Rattle.std.proofs.Common.{refl}
use Rattle.typed_chunk.proofs.FlagLaws.{some-true}
use Rattle.typed_chunk.proofs.FlagReadLaws.{first_rest}
use Rattle.typed_chunk.proofs.HeadedLaws.{some_not_none}
use Rattle.typed_chunk.proofs.SpanLaws.{many_spans}
use Rattle.typed_chunk.proofs.WholeLaws.{length-with}
use Rattle.typed_chunk.proofs.dictionary_reading.read_dictionary.Goals as goal
use Rattle.typed_vector.specs.Cells.{rows}

-- The bytes of entries that all have a text.
behind_first : (bytes behind rest : List ℕ) (entries : List (List ℕ)) (all : List Bool) (count : ℕ)
    → behind ≡ drop 1 bytes → all ≡ replicate count true → length entries ≡ count
    → drop 1 bytes ≡ text_bytes entries (replicate (length entries) true) ++ rest
    → behind ≡ text_bytes entries all ++ rest
behind_first bytes behind rest entries all count same are many is =
    same ∙ is
    ∙ ap (λ (bs : List Bool). text_bytes entries bs ++ rest)
    (ap (λ (n : ℕ). replicate n true) many ∙ sym are)

pub read_texts-requires-clause-some : goal.read_texts-requires-clause-some
read_texts-requires-clause-some c =
    subst (λ bs. some_has bs ≡ true) (sym c.set_all.ensures)
    (some-true (length c.args.all.now) (omega (arith, c.requires.entries)))

pub read_texts-requires-clause-few : goal.read_texts-requires-clause-few
read_texts-requires-clause-few c =
    omega (arith, c.set_all.auto.has, c.requires.entries, c.type_inv.bytes 0)

pub read_texts-requires-clause-short : goal.read_texts-requires-clause-short
read_texts-requires-clause-short c =
    omega (
      arith,
      c.requires.short,
      ap length c.behind.ensures,
      length-drop 1 c.args.bytes.now,
    )

pub returns-in_err-read-clause-texts : goal.returns-in_err-read-clause-texts
returns-in_err-read-clause-texts c = λ fault e.
    let handed : result_err c.from_residual.result ≡ Some c.in_err-read.field-0.0 =
    search rules in
    handed ∙ c.in_err-read.ensures.fault
    ∙ ap₂ texts_fault c.set_all.ensures c.behind.ensures ∙ e

pub returns-in_err-read-clause-fault : goal.returns-in_err-read-clause-fault
returns-in_err-read-clause-fault c = λ entries rest many is.
    let count = length c.args.all.now in
    let all = c.set_all.new.has in
    let back = c.in_err-read.ensures.back entries rest (many ∙ sym c.set_all.auto.has)
    (ap (are_blank entries) c.set_all.ensures ∙ all_blank entries count)
    (behind_first c.args.bytes.now c.behind.result.now rest entries all count c.behind.ensures
    c.set_all.ensures many is) in
    absurd (false≢true back.0)

pub returns-in_err-read_codes-clause-texts : goal.returns-in_err-read_codes-clause-texts
returns-in_err-read_codes-clause-texts c = λ fault e.
    absurd (some_not_none (sym (c.in_ok-read.ensures.fault
    ∙ ap₂ texts_fault c.set_all.ensures c.behind.ensures ∙ e)))

pub returns-in_err-check_places-clause-texts : goal.returns-in_err-check_places-clause-texts
returns-in_err-check_places-clause-texts c = λ fault e.
    absurd (some_not_none (sym (c.in_ok-read.ensures.fault
    ∙ ap₂ texts_fault c.set_all.ensures c.behind.ensures ∙ e)))

pub returns-clause-texts : goal.returns-clause-texts
returns-clause-texts c = λ fault e.
    absurd (some_not_none (sym (c.in_ok-read.ensures.fault
    ∙ ap₂ texts_fault c.set_all.ensures c.behind.ensures ∙ e)))

pub returns-in_err-read_codes-clause-fault : goal.returns-in_err-read_codes-clause-fault
returns-in_err-read_codes-clause-fault c = λ entries rest many is.
    let count = length c.args.all.now in
    let all = c.set_all.new.has in
    let back = c.in_ok-read.ensures.back entries rest (many ∙ sym c.set_all.auto.has)
    (ap (are_blank entries) c.set_all.ensures ∙ all_blank entries count)
    (behind_first c.args.bytes.now c.behind.result.now rest entries all count c.behind.ensures
    c.set_all.ensures many is) in
    let wide : bits c.of.result ≡ least_width (count - 1) =
    c.of.ensures.is ∙ ap (λ (n : ℕ). least_width (n - 1)) c.set_all.auto.has in
    let handed : c.from_residual-in_err-read_codes.result ≡ Err c.in_err-read_codes.field-0.0 =
    search rules in
    rw handed (codes_left entries c.args.has.now rest c.in_ok-read.read.rest.now
    (bits c.of.result) count (length c.args.places.now) c.in_err-read_codes.field-0.0 many wide
    c.requires.rows back.1.1 c.in_err-read_codes.ensures.fault)

pub returns-in_err-check_places-clause-fault : goal.returns-in_err-check_places-clause-fault
returns-in_err-check_places-clause-fault c = λ entries rest many is.
    let count = length c.args.all.now in
    let all = c.set_all.new.has in
    let back = c.in_ok-read.ensures.back entries rest (many ∙ sym c.set_all.auto.has)
    (ap (are_blank entries) c.set_all.ensures ∙ all_blank entries count)
    (behind_first c.args.bytes.now c.behind.result.now rest entries all count c.behind.ensures
    c.set_all.ensures many is) in
    let wide : bits c.of.result ≡ least_width (count - 1) =
    c.of.ensures.is ∙ ap (λ (n : ℕ). least_width (n - 1)) c.set_all.auto.has in
    let tails = rows c.in_ok-read.read.tails.now c.read_texts.new.offsets in
    let ends : length tails ≡ count =
    omega (
      arith,
      many_spans c.in_ok-read.read.tails.now c.read_texts.new.offsets c.in_ok-read.ensures.spans,
      c.read_texts.auto.offsets,
      c.requires.ends,
    ) in
    let handed : c.from_residual-in_err-check_places.result
    ≡ Err c.in_err-check_places.field-0.0 = search rules in
    rw handed (places_left entries tails c.in_ok-read.read.start.now c.args.has.now rest
    c.in_ok-read.read.rest.now c.read_codes.new.codes (bits c.of.result) count
    (length c.args.places.now) (Some c.in_err-check_places.field-0.0) many ends wide
    c.requires.rows c.read_codes.auto.codes
    back.1.1
    (ap (λ (bs : List Bool). with_beginning c.in_ok-read.read.start.now tails bs)
    (sym c.set_all.ensures) ∙ back.1.0)
    c.in_ok-read_codes.ensures.fault c.in_ok-read_codes.ensures.ok
    c.in_err-check_places.ensures)

pub returns-clause-fault : goal.returns-clause-fault
returns-clause-fault c = λ entries rest many is.
    let count = length c.args.all.now in
    let all = c.set_all.new.has in
    let back = c.in_ok-read.ensures.back entries rest (many ∙ sym c.set_all.auto.has)
    (ap (are_blank entries) c.set_all.ensures ∙ all_blank entries count)
    (behind_first c.args.bytes.now c.behind.result.now rest entries all count c.behind.ensures
    c.set_all.ensures many is) in
    let wide : bits c.of.result ≡ least_width (count - 1) =
    c.of.ensures.is ∙ ap (λ (n : ℕ). least_width (n - 1)) c.set_all.auto.has in
    let tails = rows c.in_ok-read.read.tails.now c.read_texts.new.offsets in
    let ends : length tails ≡ count =
    omega (
      arith,
      many_spans c.in_ok-read.read.tails.now c.read_texts.new.offsets c.in_ok-read.ensures.spans,
      c.read_texts.auto.offsets,
      c.requires.ends,
    ) in
    places_left entries tails c.in_ok-read.read.start.now c.args.has.now rest
    c.in_ok-read.read.rest.now c.read_codes.new.codes (bits c.of.result) count
    (length c.args.places.now) None many ends wide c.requires.rows c.read_codes.auto.codes
    back.1.1
    (ap (λ (bs : List Bool). with_beginning c.in_ok-read.read.start.now tails bs)
    (sym c.set_all.ensures) ∙ back.1.0)
    c.in_ok-read_codes.ensures.fault c.in_ok-read_codes.ensures.ok
    c.in_ok-check_places.ensures

pub returns-clause-ok : goal.returns-clause-ok
returns-clause-ok c =
    let bytes = c.args.bytes.now in
    let count = length c.args.all.now in
    let all = c.set_all.new.has in
    let places = c.read_codes.new.codes in
    let start = c.in_ok-read.read.start.now in
    let wide : bits c.of.result ≡ least_width (count - 1) =
    c.of.ensures.is ∙ ap (λ (n : ℕ). least_width (n - 1)) c.set_all.auto.has in
    let tails = rows c.in_ok-read.read.tails.now c.read_texts.new.offsets in
    let ends : length tails ≡ count =
    omega (
      arith,
      many_spans c.in_ok-read.read.tails.now c.read_texts.new.offsets c.in_ok-read.ensures.spans,
      c.read_texts.auto.offsets,
      c.requires.ends,
    ) in
    let entries = with_beginning start tails all in
    let size : length entries ≡ count =
    length-with start tails all (ends ∙ sym c.set_all.auto.has) ∙ c.set_all.auto.has in
    let first : get_or bytes 0 0 ≡ count - 1 = omega (arith, c.requires.entries) in
    sym (first_rest bytes c.requires.first)
    ∙ ap₂ (λ (n : ℕ) (xs : List ℕ). n ∷ xs) first
    (sym c.behind.ensures ∙ c.in_ok-read.ensures.ok
    ∙ ap (λ (xs : List ℕ). text_bytes entries all ++ xs) c.in_ok-read_codes.ensures.ok.same)
    ∙ bytes_of entries places all count (bits c.of.result) size c.set_all.ensures wide
    ∙ ap (λ (bs : List Bool). dictionary_bytes (with_beginning start tails bs) places)
    c.set_all.ensures

pub returns-in_err-read-clause-back : goal.returns-in_err-read-clause-back
returns-in_err-read-clause-back c = λ entries items many each none is.
    let count = length c.args.all.now in
    let all = c.set_all.new.has in
    let rest = packed (least_width (length entries - 1)) items in
    let back = c.in_err-read.ensures.back entries rest (many ∙ sym c.set_all.auto.has)
    (ap (are_blank entries) c.set_all.ensures ∙ all_blank entries count)
    (behind_first c.args.bytes.now c.behind.result.now rest entries all count c.behind.ensures
    c.set_all.ensures many (entries_behind c.args.bytes.now entries items is)) in
    absurd (false≢true back.0)

pub returns-in_err-read_codes-clause-back : goal.returns-in_err-read_codes-clause-back
returns-in_err-read_codes-clause-back c = λ entries items many each none is.
    let count = length c.args.all.now in
    let all = c.set_all.new.has in
    let rest = packed (least_width (length entries - 1)) items in
    let back = c.in_ok-read.ensures.back entries rest (many ∙ sym c.set_all.auto.has)
    (ap (are_blank entries) c.set_all.ensures ∙ all_blank entries count)
    (behind_first c.args.bytes.now c.behind.result.now rest entries all count c.behind.ensures
    c.set_all.ensures many (entries_behind c.args.bytes.now entries items is)) in
    let wide : bits c.of.result ≡ least_width (count - 1) =
    c.of.ensures.is ∙ ap (λ (n : ℕ). least_width (n - 1)) c.set_all.auto.has in
    let are = are_packed entries items c.args.has.now c.in_ok-read.read.rest.now
    (bits c.of.result) count many (omega (arith, c.requires.entries))
    (omega (arith, c.requires.entries, c.type_inv.bytes 0)) wide none back.1.1 in
    let codes = c.in_err-read_codes.ensures.back items (each ∙ sym c.requires.rows) are in
    absurd (false≢true codes.0)

pub returns-in_err-check_places-clause-back : goal.returns-in_err-check_places-clause-back
returns-in_err-check_places-clause-back c = λ entries items many each none is.
    let count = length c.args.all.now in
    let all = c.set_all.new.has in
    let rest = packed (least_width (length entries - 1)) items in
    let back = c.in_ok-read.ensures.back entries rest (many ∙ sym c.set_all.auto.has)
    (ap (are_blank entries) c.set_all.ensures ∙ all_blank entries count)
    (behind_first c.args.bytes.now c.behind.result.now rest entries all count c.behind.ensures
    c.set_all.ensures many (entries_behind c.args.bytes.now entries items is)) in
    let wide : bits c.of.result ≡ least_width (count - 1) =
    c.of.ensures.is ∙ ap (λ (n : ℕ). least_width (n - 1)) c.set_all.auto.has in
    let are = are_packed entries items c.args.has.now c.in_ok-read.read.rest.now
    (bits c.of.result) count many (omega (arith, c.requires.entries))
    (omega (arith, c.requires.entries, c.type_inv.bytes 0)) wide none back.1.1 in
    let tails = rows c.in_ok-read.read.tails.now c.read_texts.new.offsets in
    let ends : length tails ≡ count =
    omega (
      arith,
      many_spans c.in_ok-read.read.tails.now c.read_texts.new.offsets c.in_ok-read.ensures.spans,
      c.read_texts.auto.offsets,
      c.requires.ends,
    ) in
    let codes = c.in_ok-read_codes.ensures.back items (each ∙ sym c.requires.rows) are in
    let start = c.in_ok-read.read.start.now in
    absurd (some_not_none (c.in_err-check_places.ensures
    ∙ places_front start tails c.read_codes.new.codes c.args.has.now count ends
    ∙ ap₂ (λ (es : List (List ℕ)) (ps : List ℕ). places_fault es ps c.args.has.now)
    (ap (λ (bs : List Bool). with_beginning start tails bs) (sym c.set_all.ensures) ∙ back.1.0)
    codes.1
    ∙ none))

pub returns-clause-back : goal.returns-clause-back
returns-clause-back c = λ entries items many each none is.
    let count = length c.args.all.now in
    let all = c.set_all.new.has in
    let rest = packed (least_width (length entries - 1)) items in
    let back = c.in_ok-read.ensures.back entries rest (many ∙ sym c.set_all.auto.has)
    (ap (are_blank entries) c.set_all.ensures ∙ all_blank entries count)
    (behind_first c.args.bytes.now c.behind.result.now rest entries all count c.behind.ensures
    c.set_all.ensures many (entries_behind c.args.bytes.now entries items is)) in
    let wide : bits c.of.result ≡ least_width (count - 1) =
    c.of.ensures.is ∙ ap (λ (n : ℕ). least_width (n - 1)) c.set_all.auto.has in
    let are = are_packed entries items c.args.has.now c.in_ok-read.read.rest.now
    (bits c.of.result) count many (omega (arith, c.requires.entries))
    (omega (arith, c.requires.entries, c.type_inv.bytes 0)) wide none back.1.1 in
    let codes = c.in_ok-read_codes.ensures.back items (each ∙ sym c.requires.rows) are in
    let tails = rows c.in_ok-read.read.tails.now c.read_texts.new.offsets in (
      refl,
      codes.1,
      ap (λ (bs : List Bool). with_beginning c.in_ok-read.read.start.now tails bs)
          (sym c.set_all.ensures) ∙ back.1.0,
    )

pub returns-clause-form : goal.returns-clause-form
returns-clause-form c =
    subst (λ bs. AreBegun c.in_ok-read.read.start.now
    (rows c.in_ok-read.read.tails.now c.read_texts.new.offsets) bs) c.set_all.ensures
    c.in_ok-read.ensures.form

pub returns-clause-places : goal.returns-clause-places
returns-clause-places c = sym c.in_ok-check_places.ensures
