use Rattle.std.proofs.Common.{◌≡◌, ◌<◌, ◌≤◌, ◌+◌, ◌-◌, ◌++◌, ◌∙◌, [], Bool, Err, List, ℕ, ap, arith}
use Rattle.std.proofs.Common.{false, get_or, length, length-append, length-set, rules, take}
use Rattle.std.specs.List.{concat}
use Rattle.std.specs.Prelude.{if◌then◌else◌}
use Rattle.std.proofs.lemmas.List.{take_all}
use Rattle.typed_vector.specs.Cells.{rows}
use Rattle.typed_chunk.specs.TextReading.{with_beginning}
use Rattle.typed_chunk.proofs.SpanLaws.{concat_more, kept_behind, many_spans}
use Rattle.typed_chunk.proofs.WholeLaws.{length-with, whole_are, whole_more, with_at}
use Rattle.typed_chunk.proofs.whole_texts.append_rows.Goals as goal

-- What one more row is.
row_is : (start tail : List ℕ) (tails : List (List ℕ)) (has : List Bool) (i : ℕ)
    → i < length tails → i < length has → tail ≡ get_or tails i []
    → (if get_or has i false then start ++ tail else [])
    ≡ get_or (with_beginning start tails has) i []
row_is start tail tails has i inside within is =
    ap (λ (xs : List ℕ). if get_or has i false then start ++ xs else []) is
    ∙ with_at start tails has i inside within

pub loop-index-preserved : goal.loop-index-preserved
loop-index-preserved c =
    let start = c.args.start.now in
    let has = c.args.has.now in
    let tails = rows c.args.tails.now c.args.offsets.now in
    let index = c.loop-index.index in
    let texts = with_beginning start tails has in
    let old = c.args.out.now.items in
    let new = c.append_row.new.out.items in
    let many : length tails ≡ length has =
    omega (
      arith,
      many_spans c.args.tails.now c.args.offsets.now c.requires.spans,
      c.requires.many,
    ) in
    let within : index < length has = c.loop-index-test.true in
    let inside : index < length texts =
    omega (arith, within, length-with start tails has many) in
    let row = row_is start c.text_at.result.now tails has index (omega (arith, many, within))
    within c.text_at.ensures in
    let bytes : new ≡ old ++ concat (take (index + 1) texts) =
    concat_more old c.loop-index.out.items new
    (if get_or has index false then start ++ c.text_at.result.now else []) texts index inside
    c.loop-index.invariant.bytes row c.in_ok-append_row.ensures.ok in
    record {
      bytes = bytes;
      written = whole_more c.loop-index.whole texts index (c.len.result - c.len-kept.result)
          (omega (
            arith,
            within,
            c.requires.room,
            c.loop-index.auto.whole,
            length-set c.args.whole.now 0 0,
          ))
          c.loop-index.invariant.written
          (omega (
            arith,
            c.len.ensures,
            c.len-kept.ensures,
            ap length bytes,
            length-append old (concat (take (index + 1) texts)),
          ));
    }

pub returns-in_err-append_row-clause-err : goal.returns-in_err-append_row-clause-err
returns-in_err-append_row-clause-err c =
    let texts = with_beginning c.args.start.now (rows c.args.tails.now c.args.offsets.now)
    c.args.has.now in
    let handed : c.from_residual.result ≡ Err c.in_err-append_row.field-0.0 = search rules in
    rw handed (kept_behind c.args.out.now.items c.loop-index.out.items c.append_row.new.out.items
    (concat (take c.loop-index.index texts)) c.loop-index.invariant.bytes
    c.in_err-append_row.ensures.err)

pub returns-clause-bytes : goal.returns-clause-bytes
returns-clause-bytes c =
    let has = c.args.has.now in
    let tails = rows c.args.tails.now c.args.offsets.now in
    let texts = with_beginning c.args.start.now tails has in
    let many : length tails ≡ length has =
    omega (
      arith,
      many_spans c.args.tails.now c.args.offsets.now c.requires.spans,
      c.requires.many,
    ) in
    let all : length texts ≤ c.loop-index.index =
    omega (arith, length-with c.args.start.now tails has many, c.loop-index-test.false) in
    c.loop-index.invariant.bytes
    ∙ ap (λ (ts : List (List ℕ)). c.args.out.now.items ++ concat ts)
    (take_all c.loop-index.index texts all)

pub returns-clause-offsets : goal.returns-clause-offsets
returns-clause-offsets c =
    let has = c.args.has.now in
    let tails = rows c.args.tails.now c.args.offsets.now in
    let texts = with_beginning c.args.start.now tails has in
    let many : length tails ≡ length has =
    omega (
      arith,
      many_spans c.args.tails.now c.args.offsets.now c.requires.spans,
      c.requires.many,
    ) in
    let count : length texts ≡ length has = length-with c.args.start.now tails has many in
    whole_are c.loop-index.whole texts
    (omega (
      arith,
      count,
      c.requires.room,
      c.loop-index.auto.whole,
      length-set c.args.whole.now 0 0,
    ))
    (λ k low. c.loop-index.invariant.written k
    (omega (arith, low, count, c.loop-index-test.false)))
