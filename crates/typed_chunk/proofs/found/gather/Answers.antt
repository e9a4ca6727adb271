use Rattle.std.proofs.Common.{◌≡◌, ◌<◌, ◌≤◌, ◌++◌, ◌∷◌, ◌∙◌, List, [], ℕ, ap, ap₂, arith, get_or}
use Rattle.std.proofs.Common.{length, map, subst, sym}
use Rattle.std.specs.Borrow.{Bor}
use Rattle.std.specs.List.{concat}
use Rattle.std.proofs.lemmas.List.{get_or-map, length-map, take_all}
use Rattle.typed_chunk.specs.TextReading.{offsets_of}
use Rattle.typed_chunk.specs.Texts.{AreSpans}
use Rattle.typed_chunk.proofs.GatherLaws.{gathered_more, gathered_rows, gathered_spans}
use Rattle.typed_chunk.proofs.SearchLaws.{texts_of}
use Rattle.typed_chunk.proofs.found.gather.Goals as goal
use Rattle.typed_vector.specs.Cells.{rows}

pub loop-entry-preserved : goal.loop-entry-preserved
loop-entry-preserved c =
    let entries = c.args.entries.now in
    let index = c.loop-entry.entry-index in
    let d : Bor (List ℕ) = record { ref_ptr = (0, 0); now = [] } in
    let low : index < length (texts_of entries) =
    omega (arith, length-map entries (λ entry. entry.now), c.loop-entry-test.true) in
    let long : c.len.result ≡ length c.extend_from_slice.new.self.items =
    omega (arith, c.len.ensures) in
    let more = gathered_more (texts_of entries) c.loop-entry.texts.items
    c.extend_from_slice.new.self.items (get_or entries index d).now c.loop-entry.offsets.items
    c.push-in-loop-entry.new.self.items index low c.loop-entry.invariant.bytes
    c.in_ok-extend_from_slice.ensures.items
    (sym (get_or-map (λ entry. entry.now) entries index d []
    (omega (arith, c.loop-entry-test.true))))
    c.loop-entry.invariant.ends
    (c.in_ok-push-2.ensures.items
    ∙ ap (λ (n : ℕ). c.loop-entry.offsets.items ++ n ∷ []) long) in
    record { bytes = more.0; ends = more.1 }

pub returns-clause-bytes : goal.returns-clause-bytes
returns-clause-bytes c =
    let texts = texts_of c.args.entries.now in
    let index = c.loop-entry.entry-index in
    let all : length texts ≤ index =
    omega (arith, length-map c.args.entries.now (λ entry. entry.now), c.loop-entry-test.false) in
    c.loop-entry.invariant.bytes ∙ ap concat (take_all index texts all)

pub returns-clause-spans : goal.returns-clause-spans
returns-clause-spans c =
    let texts = texts_of c.args.entries.now in
    let index = c.loop-entry.entry-index in
    let all : length texts ≤ index =
    omega (arith, length-map c.args.entries.now (λ entry. entry.now), c.loop-entry-test.false) in
    let bytes : c.loop-entry.texts.items ≡ concat texts =
    c.loop-entry.invariant.bytes ∙ ap concat (take_all index texts all) in
    let ends : c.loop-entry.offsets.items ≡ offsets_of (map length texts) =
    c.loop-entry.invariant.ends
    ∙ ap (λ (ts : List (List ℕ)). offsets_of (map length ts)) (take_all index texts all) in
    subst (λ (os : List ℕ). AreSpans (length c.loop-entry.texts.items) os) (sym ends)
    (subst (λ (b : List ℕ). AreSpans (length b) (offsets_of (map length texts))) (sym bytes)
    (gathered_spans texts))

pub returns-clause-rows : goal.returns-clause-rows
returns-clause-rows c =
    let texts = texts_of c.args.entries.now in
    let index = c.loop-entry.entry-index in
    let all : length texts ≤ index =
    omega (arith, length-map c.args.entries.now (λ entry. entry.now), c.loop-entry-test.false) in
    ap₂ rows (c.loop-entry.invariant.bytes ∙ ap concat (take_all index texts all))
    (c.loop-entry.invariant.ends
    ∙ ap (λ (ts : List (List ℕ)). offsets_of (map length ts)) (take_all index texts all))
    ∙ gathered_rows texts
