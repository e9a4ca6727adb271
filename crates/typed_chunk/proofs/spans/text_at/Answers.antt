use Rattle.std.proofs.Common.{arith}
use Rattle.typed_chunk.proofs.SpanLaws.{span_at}
use Rattle.typed_chunk.proofs.spans.text_at.Goals as goal

pub slice_bounds-result-count : goal.slice_bounds-result-count
slice_bounds-result-count c =
    (span_at c.args.texts.now c.args.offsets.now c.args.index c.requires.spans
    c.requires.within).low

pub slice_bounds-result-start : goal.slice_bounds-result-start
slice_bounds-result-start c =
    let at = span_at c.args.texts.now c.args.offsets.now c.args.index c.requires.spans
    c.requires.within in
    omega (arith, at.low, at.high)

pub slice_bounds-result-end : goal.slice_bounds-result-end
slice_bounds-result-end c =
    let at = span_at c.args.texts.now c.args.offsets.now c.args.index c.requires.spans
    c.requires.within in
    omega (arith, at.low, at.high)

pub returns : goal.returns
returns c =
    (span_at c.args.texts.now c.args.offsets.now c.args.index c.requires.spans
    c.requires.within).row
