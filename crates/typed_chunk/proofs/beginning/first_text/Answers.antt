use Rattle.std.proofs.Common.{◌≡◌, ◌∙◌, arith, false, get_or, rules, sym}
use Rattle.typed_vector.specs.Cells.{rows}
use Rattle.typed_chunk.proofs.BeginningLaws.{unset_here}
use Rattle.typed_chunk.proofs.SpanLaws.{many_spans}
use Rattle.typed_chunk.proofs.beginning.first_text.Goals as goal

pub loop-index-preserved : goal.loop-index-preserved
loop-index-preserved c =
    let texts = rows c.args.texts.now c.args.offsets.now in
    let has = c.args.has.now in
    let index = c.loop-index.index in
    let none : get_or has index false ≡ false = first_of (search rules, grind arith) in
    sym (unset_here texts has index (omega (
      arith,
      many_spans c.args.texts.now c.args.offsets.now c.requires.spans,
      c.requires.many,
      c.loop-index-test.true,
    )) c.loop-index-test.true none)
    ∙ c.loop-index.invariant
