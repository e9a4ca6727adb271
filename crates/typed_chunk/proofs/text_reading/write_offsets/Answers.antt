use Rattle.std.proofs.Common.{arith, length-set}
use Rattle.typed_chunk.proofs.TextReadLaws.{offsets_are}
use Rattle.typed_chunk.proofs.text_reading.write_offsets.Goals as goal

pub returns-clause-offsets : goal.returns-clause-offsets
returns-clause-offsets c =
    offsets_are c.loop-index.offsets c.args.lengths.now
    (omega (
      arith,
      c.loop-index.auto.offsets,
      c.requires,
      length-set c.args.offsets.now 0 0,
    ))
    (λ k low. c.loop-index.invariant.written k (omega (arith, low, c.loop-index-test.false)))
