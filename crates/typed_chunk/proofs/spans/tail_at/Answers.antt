use Rattle.std.proofs.Common.{arith}
use Rattle.typed_vector.specs.Cells.{rows}
use Rattle.typed_chunk.proofs.SpanLaws.{many_spans, tail_is}
use Rattle.typed_chunk.proofs.spans.tail_at.Goals as goal

pub returns : goal.returns
returns c =
    let b = c.args.texts.now in
    let offsets = c.args.offsets.now in
    tail_is c.args.size c.min.result c.args.index (rows b offsets) c.text_at-text.result.now
    (omega (arith, many_spans b offsets c.requires.spans, c.requires.within))
    c.text_at-text.ensures c.min.ensures
