use Rattle.std.proofs.Common.{[], arith, length}
use Rattle.typed_vector.specs.Cells.{rows}
use Rattle.typed_chunk.specs.Texts.{tails}
use Rattle.typed_chunk.proofs.FrameLaws.{mapped}
use Rattle.typed_chunk.proofs.SpanLaws.{many_tails}
use Rattle.typed_chunk.proofs.spans.write_lengths.Goals as goal

pub returns : goal.returns
returns c =
    let b = c.args.texts.now in
    let offsets = c.args.offsets.now in
    let size = c.args.size in
    mapped length (tails size (rows b offsets)) c.loop-index.lengths [] 0
    (omega (
      arith,
      c.loop-index.auto.lengths,
      c.requires.room,
      many_tails size b offsets c.requires.spans,
    ))
    (λ k low. c.loop-index.invariant k
    (omega (arith, low, c.loop-index-test.false, c.loop-index.auto.lengths)))
