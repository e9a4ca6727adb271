use Rattle.std.proofs.Common.{[], arith, length}
use Rattle.typed_vector.specs.Cells.{rows}
use Rattle.typed_chunk.specs.TextChunkReading.{placed}
use Rattle.typed_chunk.proofs.FrameLaws.{mapped}
use Rattle.typed_chunk.proofs.TextChunkReadLaws.{length-placed}
use Rattle.typed_chunk.proofs.text_chunk_reading.write_placed.Goals as goal

pub returns : goal.returns
returns c =
    let entries = rows c.args.entries.now c.args.offsets.now in
    let places = c.args.places.now in
    let has = c.args.has.now in
    mapped length (placed entries places has) c.loop-index.lengths [] 0
    (omega (
      arith,
      c.loop-index.auto.lengths,
      c.requires.room,
      length-placed entries places has c.requires.rows,
    ))
    (λ k low. c.loop-index.invariant k
    (omega (arith, low, c.loop-index-test.false, c.loop-index.auto.lengths)))
