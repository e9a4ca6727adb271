use Rattle.std.specs.Prelude.{◌==◌}
use Rattle.std.proofs.Common.{arith, false}
use Rattle.typed_chunk.proofs.FrameLaws.{mapped}
use Rattle.typed_chunk.proofs.flags.write_rows.Goals as goal

pub returns : goal.returns
returns c =
    mapped (λ code. code == 1) c.args.codes.now c.loop-index.has 0 false
    (omega (arith, c.loop-index.auto.has, c.requires))
    (λ k low. c.loop-index.invariant k
    (omega (arith, low, c.loop-index-test.false, c.loop-index.auto.has)))
