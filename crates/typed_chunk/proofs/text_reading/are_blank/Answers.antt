use Rattle.std.proofs.Common.{◌≡◌, ◌∙◌, arith, false, get_or, rules, sym, true}
use Rattle.typed_vector.specs.Cells.{rows}
use Rattle.typed_chunk.proofs.BegunLaws.{blank_set}
use Rattle.typed_chunk.proofs.SpanLaws.{many_spans}
use Rattle.typed_chunk.proofs.text_reading.are_blank.Goals as goal

pub loop-index-preserved-then-flag : goal.loop-index-preserved-then-flag
loop-index-preserved-then-flag c =
    let texts = rows c.args.texts.now c.args.offsets.now in
    let has = c.args.has.now in
    let index = c.loop-index.index in
    let some : get_or has index false ≡ true = first_of (search rules, grind arith) in
    sym (blank_set texts has index (omega (
      arith,
      many_spans c.args.texts.now c.args.offsets.now c.requires.spans,
      c.requires.many,
      c.loop-index-test.true,
    )) c.loop-index-test.true some)
    ∙ c.loop-index.invariant
