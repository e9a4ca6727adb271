use Rattle.std.proofs.Common.{◌≡◌, ◌<◌, ◌^◌, ◌-◌, ◌∷◌, ◌++◌, ◌∙◌, [], ℕ, Err, List, ap}
use Rattle.std.proofs.Common.{append_assoc, arith, length, rules, take}
use Rattle.std.proofs.Math.Seq.{take-length}
use Rattle.typed_vector.specs.Cells.{rows}
use Rattle.typed_chunk.specs.Packed.{bits, packed}
use Rattle.typed_chunk.specs.Texts.{text_bytes}
use Rattle.typed_chunk.proofs.DictionaryLaws.{bytes_of}
use Rattle.typed_chunk.proofs.SpanLaws.{kept_front, many_spans, three_more}
use Rattle.typed_chunk.proofs.dictionary.append_parts.Goals as goal

pub append_codes-requires-clause-fit : goal.append_codes-requires-clause-fit
append_codes-requires-clause-fit c = λ k d inside.
    let low = c.requires.inside k d inside in
    let fits : length c.args.all.now - 1 < 2 ^ bits c.of.result = c.of.ensures.fits in
    omega (arith, low, fits, c.requires.some)

pub returns-in_err-extend_from_slice-clause-err : goal.returns-in_err-extend_from_slice-clause-err
returns-in_err-extend_from_slice-clause-err c =
    let old = c.args.out.now.items in
    let handed : c.from_residual.result ≡ Err c.in_err-extend_from_slice.field-0.0 = search rules in
    rw handed (ap (take (length old)) c.in_err-extend_from_slice.ensures.items ∙ take-length old)

pub returns-in_err-append_texts-clause-err : goal.returns-in_err-append_texts-clause-err
returns-in_err-append_texts-clause-err c =
    let old = c.args.out.now.items in
    let handed : c.from_residual-in_err-append_texts.result
    ≡ Err c.in_err-append_texts.field-0.0 = search rules in
    rw handed (kept_front old c.append_texts.new.out.items ((length c.args.all.now - 1) ∷ [])
    (c.in_err-append_texts.ensures ∙ c.in_ok-extend_from_slice.ensures.items))

pub returns-in_err-append_codes-clause-err : goal.returns-in_err-append_codes-clause-err
returns-in_err-append_codes-clause-err c =
    let old = c.args.out.now.items in
    let head = (length c.args.all.now - 1) ∷ [] in
    let texts = text_bytes (rows c.args.entries.now c.args.offsets.now) c.set_all.new.has in
    let handed : c.from_residual-in_err-append_codes.result
    ≡ Err c.in_err-append_codes.field-0.0 = search rules in
    rw handed (kept_front old c.append_codes.new.out.items (head ++ texts)
    (c.in_err-append_codes.ensures.items ∙ c.in_ok-append_texts.ensures
    ∙ ap (λ (xs : List ℕ). xs ++ texts) c.in_ok-extend_from_slice.ensures.items
    ∙ append_assoc old head texts))

pub returns-clause-ok : goal.returns-clause-ok
returns-clause-ok c =
    let old = c.args.out.now.items in
    let codes = c.args.codes.now in
    let all = c.set_all.new.has in
    let count = length c.args.all.now in
    let entries = rows c.args.entries.now c.args.offsets.now in
    let many : length entries ≡ count =
    omega (
      arith,
      many_spans c.args.entries.now c.args.offsets.now c.requires.spans,
      c.requires.many,
    ) in
    three_more old c.extend_from_slice.new.self.items c.append_texts.new.out.items
    c.append_codes.new.out.items ((count - 1) ∷ []) (text_bytes entries all)
    (packed (bits c.of.result) codes) c.in_ok-extend_from_slice.ensures.items
    c.in_ok-append_texts.ensures
    c.in_ok-append_codes.ensures.items
    ∙ ap (λ (bytes : List ℕ). old ++ bytes)
    (bytes_of entries codes all count (bits c.of.result) many c.set_all.ensures c.of.ensures.is)
