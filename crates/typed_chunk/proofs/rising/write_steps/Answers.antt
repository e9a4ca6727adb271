use Rattle.std.proofs.Common.{arith}
use Rattle.typed_chunk.proofs.RisingLaws.{steps_by}
use Rattle.typed_chunk.proofs.rising.write_steps.Goals as goal

pub returns : goal.returns
returns c =
    steps_by c.args.values.now c.loop-index.steps
    (omega (arith, c.loop-index.auto.steps, c.requires))
    (λ k low. c.loop-index.invariant k
    (omega (arith, low, c.loop-index-test.false, c.loop-index.auto.steps)))
